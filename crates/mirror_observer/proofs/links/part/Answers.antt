use Rattle.std.proofs.Common.{◌≡◌, ◌==◌, cond, ◌∙◌, ap}
use Rattle.arr_notes.specs.NamedRows.{put, each, edit}
use Rattle.slab_laws.specs.View.{twin_in, source_in, next_in, line_in}
use Rattle.slab_laws.specs.declared.names.DartId.{DartId}
use Rattle.slab_laws.specs.declared.names.VertexId.{VertexId}
use Rattle.mirror_observer.specs.Tables.{darts_of, previous_at, with_previous, with_follower, with_start, diverted}
use Rattle.mirror_observer.proofs.Rewritten.{led_first}
use Rattle.mirror_observer.proofs.links.part.Goals as goal

pub redirect-requires : goal.redirect-requires
redirect-requires c = record { named = c.requires.named; led = led_first c.args.darts.now.entries c.requires.named c.requires.back c.twin_of-twin.result }

pub returns : goal.returns
returns c =
    let ds = c.args.darts.now.entries in
    let v = darts_of ds in
    let d : DartId = c.args.d in
    let n : DartId = c.args.n in
    let m : DartId = c.args.m in
    let w : VertexId = c.args.w in
    let t : c.twin_of-twin.result ≡ twin_in v d = c.twin_of-twin.ensures in
    let y : c.next_of-after.result ≡ next_in v d = c.next_of-after.ensures in
    let s : c.source_of-end.result ≡ source_in v (twin_in v d) = c.source_of-end.ensures ∙ ap (source_in v) t in
    let b : c.previous_of-before.result ≡ previous_at ds (twin_in v d) = c.previous_of-before.ensures ∙ ap (previous_at ds) t in
    let l : c.line_of-line.result ≡ line_in v d = c.line_of-line.ensures in
    let k : c.is_same-bare.result ≡ ((next_in v d).0 == (twin_in v d).0) = c.is_same-bare.ensures ∙ (λ i. (y i).0 == (t i).0) in
    let a : c.either.result ≡ cond ((next_in v d).0 == (twin_in v d).0) m (next_in v d) = c.either.ensures ∙ (λ i. cond (k i) m (y i)) in
    let p : c.either-2.result ≡ cond ((next_in v d).0 == (twin_in v d).0) n (previous_at ds (twin_in v d)) = c.either-2.ensures ∙ (λ i. cond (k i) n (b i)) in
    let e1 = c.redirect.ensures ∙ (λ i. each (λ j e. diverted (t i) m e) ds) in
    let e2 = c.in_ok-keep.ensures ∙ (λ i. put n.0 (record { source = w; twin = m; next = a i; previous = d; line = l i }) (e1 i)) in
    let e3 = c.in_ok-keep-2.ensures ∙ (λ i. put m.0 (record { source = s i; twin = n; next = t i; previous = p i; line = l i }) (e2 i)) in
    let e4 = c.start_at.ensures ∙ (λ i. edit (t i).0 (with_start w) (e3 i)) in
    let e5 = c.follow.ensures ∙ (λ i. edit d.0 (with_follower n) (e4 i)) in
    let e6 = c.precede.ensures ∙ (λ i. edit (y i).0 (with_previous n) (e5 i)) in
    c.precede-2.ensures ∙ (λ i. edit (t i).0 (with_previous m) (e6 i))
