use Rattle.std.proofs.Common.{◌≡◌, List, ◌∷◌, [], ◌++◌, get_or, sym, ap, ◌∙◌, subst, Vec, Global}
use Rattle.std.specs.List.{AllByRecursion}
use Rattle.std.proofs.lemmas.List.{take_all}
use Rattle.plane_graphs.proofs.Ascending.{All-member}
use Rattle.plane_graphs.proofs.Sorting.{any_default, member_at}
use Rattle.slab_laws.specs.declared.names.DartId.{DartId}
use Rattle.slab_laws.specs.View.{HasDart}
use Rattle.overlay_sweep.specs.declared.own.OwnEdge.{OwnEdge}
use Rattle.own_edges.proofs.EdgesOwned.{owned_by, owned_more, owned_same, are_own}
use Rattle.own_edges.proofs.edges.own_edges.Goals as goal
use Rattle.own_edges.proofs.edges.own_edges.Goals.{then-is_forward+in_ok-push, else-is_forward}

pub names-init : goal.names-init
names-init c = c.new-edges.ensures.items

pub is_forward-requires-clause-dart : goal.is_forward-requires-clause-dart
is_forward-requires-clause-dart c =
    let v = c.args.records.now.graph in
    let xs = c.deref-name-items.result.now in
    let no : DartId = record { 0 = 0 } in
    All-member (HasDart v) (get_or xs c.names.name-index no) xs (subst (λ (ys : List DartId). AllByRecursion (HasDart v) ys) (sym c.deref-name-items.ensures.value) c.in_ok-names.ensures.have) (member_at xs c.names.name-index no c.names-test.true)

pub names-preserved : goal.names-preserved
names-preserved c =
    let h = c.args.records.now in
    let xs = c.deref-name-items.result.now in
    let i = c.names.name-index in
    let no : DartId = record { 0 = 0 } in
    let d = get_or xs i no in
    let l = c.names-test.true in
    let e : d ≡ get_or xs i d = any_default xs i no d l in
    elim c.if-is_forward.branch [
      | then-is_forward+in_ok-push w ↦
          owned_more h xs i d l e c.names.edges.items c.if-is_forward.edges.items (sym c.is_forward.ensures ∙ w.if-is_forward.true) c.names.invariant
          (ap (λ (x : Vec OwnEdge Global). x.items) w.edges-is ∙ w.in_ok-push.ensures.items ∙ ap (λ (k : OwnEdge). c.names.edges.items ++ k ∷ []) w.own_edge.ensures)
      | else-is_forward w ↦
          ap (λ (x : Vec OwnEdge Global). x.items) w.edges-is ∙ owned_same h xs i d l e c.names.edges.items (sym c.is_forward.ensures ∙ w.if-is_forward.false) c.names.invariant
    ]

pub returns : goal.returns
returns c =
    let h = c.args.records.now in
    λ p e. are_own h c.requires.map p e c.names.edges.items (c.names.invariant ∙ ap (owned_by h) (take_all c.names.name-index c.deref-name-items.result.now c.names-test.false ∙ c.deref-name-items.ensures.value ∙ c.in_ok-names.ensures.names))
