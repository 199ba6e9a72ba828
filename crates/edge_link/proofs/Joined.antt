-- Two cycles that are joined: both new darts and those of the cycle that goes are on the one that is kept.
use Rattle.std.proofs.Common.{◌≡◌, ◌≢◌, ◌==◌, cond, List, Some, IsSome, is_some, option_map, refl, sym, ap, subst, ◌∙◌, ◌⊎◌, inl, inr, arith}
use Rattle.std.proofs.lemmas.Bool.{false≢true}
use Rattle.integers.proofs.Tests.{other_number}
use Rattle.exact_plane.specs.Line.{Line}
use Rattle.slab_laws.specs.declared.names.CycleId.{CycleId}
use Rattle.slab_laws.specs.declared.names.CycleKind.TheVariants.{Inner, Outer}
use Rattle.slab_laws.specs.declared.names.DartId.{DartId}
use Rattle.slab_laws.specs.declared.names.VertexId.{VertexId}
use Rattle.slab_laws.specs.FaceLists.{Lists, AreDartsOn}
use Rattle.slab_laws.specs.FacesSound.{lead_in}
use Rattle.slab_laws.specs.Sound.{IsGraphSound}
use Rattle.slab_laws.specs.Tables.{row_at, names as names_of, NamesAscend}
use Rattle.slab_laws.specs.View.{View, Faces, HasDart, HasCycle, dart_id, twin_in, next_in, cycle_or, cycle_in, kind_in}
use Rattle.arr_notes.specs.FaceSteps.{step_faces}
use Rattle.arr_notes.specs.FaceWriters.{on_cycle, recycled, without_cycle}
use Rattle.arr_notes.specs.FacesTold.{linked_faces}
use Rattle.arr_notes.specs.Step.{add_edge}
use Rattle.arr_notes.specs.declared.faces.Linked.TheVariants.{Joins}
use Rattle.arr_notes.proofs.RowLaws.{row_at-each}
use Rattle.arr_notes.proofs.VertexReads.{del_hit, del_miss}
use Rattle.dcel_records.specs.ListChanges.{cycle_unlisted}
use Rattle.dcel_records.specs.RecordsView.{RecordsView, FacesView, IsReturned, IsSpare, IsSpareFaces, graph_part, lists_of, lists_in_view, tables_of}
use Rattle.dcel_records.specs.SoundMaps.{IsSoundMap}
use Rattle.face_steps.specs.EdgePairs.{IsEdgeApart}
use Rattle.face_steps.specs.RowsWritten.{all_on}
use Rattle.face_steps.specs.StepPremises.{IsBetween, FitsJoin}
use Rattle.face_steps.specs.Tabled.{AreTabled}
use Rattle.face_steps.proofs.Choices.{tables_are_sound, choices_of_kinds}
use Rattle.face_steps.proofs.CyclesApart.{cycle_cases}
use Rattle.face_steps.proofs.EdgePairs.{up}
use Rattle.face_steps.proofs.FaceRows.{cycle_number, map_cycle, swap_miss}
use Rattle.cycle_writers.specs.Runs.{IsRun}
use Rattle.cycle_writers.proofs.FollowsMore.{turned}
use Rattle.cycle_writers.proofs.Recycled.{none_left}
use Rattle.cycle_writers.proofs.RunSteps.{rows_of, runs_are_steps}
use Rattle.cycle_writers.proofs.RunsUnited.{runs_are_cycles}
use Rattle.edge_link.specs.declared.links.LinkNames.{LinkNames}
use Rattle.edge_link.specs.FacedLinks.{IsLinkMade}
use Rattle.edge_link.specs.Links.{AreNewDarts, CanLink}
use Rattle.edge_link.proofs.LinkedMaps.{edge_linked, linked_between, linked_map}
use Rattle.edge_link.proofs.LinkParts.{same_link, same_sound, same_spare, old_row}

-- ---- the darts that are kept for cycles
module _ (v g : View) (d m : DartId) (u w : VertexId) (l : Line) (apart : IsEdgeApart v g d m u w l) (f : Faces) (lists : Lists) (kept gone : CycleId) (names : NamesAscend (names_of f.cycles)) (rows : (k : DartId) → HasDart v k → IsSome (row_at f.cycle_of k.0)) (darts : AreDartsOn v f lists) where
  abbrev s : Faces
  s = without_cycle gone (recycled gone kept (on_cycle m kept (on_cycle d kept f)))

  abbrev swap : CycleId → CycleId
  swap c = cond (c.0 == gone.0) kept c

  stays : (e : CycleId) → HasCycle f e → e ≢ gone → HasDart g ((cycle_unlisted gone lists).dart_on e) × (cycle_in s ((cycle_unlisted gone lists).dart_on e) ≡ e)
  stays e o n =
      let k = lists.dart_on e in
      let r = darts e o in
      let is : (cycle_unlisted gone lists).dart_on e ≡ k = ap (λ b. cond b (dart_id 0) k) (other_number e.0 gone.0 (cycle_number e gone n)) in
      let on : cycle_in s k ≡ e =
      ap cycle_or (row_at-each (λ _. swap) _ k.0 ∙ ap (option_map swap) (old_row v g d m u w l apart f kept k r.0)) ∙ map_cycle swap (row_at f.cycle_of k.0) (rows k r.0) ∙ ap swap r.1 ∙ swap_miss gone kept e n in
      subst (λ z. HasDart g z × (cycle_in s z ≡ e)) (sym is) (up v g d m u w l apart k r.0, on)

  pub joined_darts : AreDartsOn g s (cycle_unlisted gone lists)
  joined_darts e o = elim (cycle_cases e gone) [
    | inl q ↦ absurd (false≢true (sym (ap is_some (ap (λ (z : CycleId). row_at s.cycles z.0) q ∙ del_hit gone.0 f.cycles names)) ∙ o))
    | inr n ↦ stays e (subst IsSome (del_miss gone.0 f.cycles e.0 names (cycle_number e gone n)) o) n
  ]

module _ (old linked : RecordsView) (names : LinkNames) (u w : VertexId) (a b : DartId) (l : Line) (map : IsSoundMap old) (can : CanLink old.graph u w (Some a) (Some b) l) (two : cycle_in (tables_of old) (twin_in old.graph a) ≢ cycle_in (tables_of old) (twin_in old.graph b)) (fresh : AreNewDarts old.graph names.d names.m) (is : linked.graph ≡ add_edge old.graph names.d names.m u w (Some a) (Some b) l) (sound : IsGraphSound linked.graph) where
  abbrev A : DartId
  A = twin_in old.graph a

  abbrev B : DartId
  B = twin_in old.graph b

  abbrev first : CycleId
  first = cycle_in (tables_of old) (twin_in old.graph a)

  abbrev second : CycleId
  second = cycle_in (tables_of old) (twin_in old.graph b)

  abbrev both_on : CycleId → Faces
  both_on c = on_cycle names.m c (on_cycle names.d c (tables_of old))

  tabled : AreTabled old.graph (tables_of old)
  tabled = (tables_are_sound old.graph (tables_of old) map.sound.graph).1 map.sound

  between : IsBetween old.graph linked.graph names.d names.m u w A B
  between = linked_between old.graph linked.graph names.d names.m u w (Some a) (Some b) l map.sound.graph can fresh is sound a b refl refl

  back : IsBetween old.graph linked.graph names.m names.d w u B A
  back = turned old.graph linked.graph names.d names.m u w A B between

  other : second ≢ first
  other e = two (sym e)

  pub first_known : HasDart linked.graph names.d
  first_known = between.edge.more.first

  pub second_known : HasDart linked.graph names.m
  second_known = between.edge.more.second

  -- what follows one of them is on one cycle with the other
  pub first_ahead : (k : DartId) → k ≡ next_in linked.graph names.d → HasDart linked.graph k × (lead_in linked.graph k ≡ lead_in linked.graph names.m)
  first_ahead k e = subst (λ z. HasDart linked.graph z × (lead_in linked.graph z ≡ lead_in linked.graph names.m)) (sym e) (runs_are_cycles.together old.graph linked.graph (tables_of old) names.d names.m u w A B between tabled two)

  pub second_ahead : (k : DartId) → k ≡ next_in linked.graph names.m → HasDart linked.graph k × (lead_in linked.graph k ≡ lead_in linked.graph names.d)
  second_ahead k e = subst (λ z. HasDart linked.graph z × (lead_in linked.graph z ≡ lead_in linked.graph names.d)) (sym e) (runs_are_cycles.together old.graph linked.graph (tables_of old) names.m names.d w u B A back tabled other)

  -- where one is outer the other is inner
  second_inner : (kind_in (tables_of old) first ≡ Outer) ⊎ (kind_in (tables_of old) second ≡ Inner) → kind_in (tables_of old) second ≡ Inner
  second_inner (inl e) = choices_of_kinds.join old.graph linked.graph (tables_of old) names.d names.m u w A B between tabled two e
  second_inner (inr e) = e

  first_inner : (kind_in (tables_of old) second ≡ Outer) ⊎ (kind_in (tables_of old) first ≡ Inner) → kind_in (tables_of old) first ≡ Inner
  first_inner (inl e) = choices_of_kinds.join old.graph linked.graph (tables_of old) names.m names.d w u B A back tabled other e
  first_inner (inr e) = e

  -- as the code chooses: the kinds are told at x and y, the twins of the places
  pub second_goes : (x y : DartId) (kept gone : CycleId) → x ≡ twin_in old.graph a → y ≡ twin_in old.graph b → kept ≡ first → gone ≡ second → (kind_in (tables_of old) (cycle_in (tables_of old) x) ≡ Outer) ⊎ (kind_in (tables_of old) (cycle_in (tables_of old) y) ≡ Inner) → FitsJoin (tables_of old) A B kept gone
  second_goes x y kept gone tx ty p q k = record {
    two = λ e. two (sym p ∙ e ∙ q);
    ends = inl (sym p, sym q);
    inner = ap (kind_in (tables_of old)) q ∙ second_inner (subst (λ (z : DartId × DartId). (kind_in (tables_of old) (cycle_in (tables_of old) z.0) ≡ Outer) ⊎ (kind_in (tables_of old) (cycle_in (tables_of old) z.1) ≡ Inner)) (λ i. (tx i, ty i)) k);
  }

  pub first_goes : (x y : DartId) (kept gone : CycleId) → x ≡ twin_in old.graph a → y ≡ twin_in old.graph b → kept ≡ second → gone ≡ first → (kind_in (tables_of old) (cycle_in (tables_of old) y) ≡ Outer) ⊎ (kind_in (tables_of old) (cycle_in (tables_of old) x) ≡ Inner) → FitsJoin (tables_of old) A B kept gone
  first_goes x y kept gone tx ty p q k = record {
    two = λ e. two (sym q ∙ sym e ∙ p);
    ends = inr (sym q, sym p);
    inner = ap (kind_in (tables_of old)) q ∙ first_inner (subst (λ (z : DartId × DartId). (kind_in (tables_of old) (cycle_in (tables_of old) z.1) ≡ Outer) ⊎ (kind_in (tables_of old) (cycle_in (tables_of old) z.0) ≡ Inner)) (λ i. (tx i, ty i)) k);
  }

  -- what is written along the run of the one that goes
  pub second_written : (kept gone : CycleId) (k : DartId) (ds : List DartId) → kept ≡ first → gone ≡ second → k ≡ next_in linked.graph names.d → IsRun linked.graph k names.m ds → all_on ds kept (both_on kept) ≡ recycled gone kept (both_on kept)
  second_written kept gone k ds p q e r =
      subst (λ (z : CycleId × CycleId). all_on ds z.0 (both_on z.0) ≡ recycled z.1 z.0 (both_on z.0)) (λ i. (sym p i, sym q i))
      (runs_are_steps.second_goes old.graph linked.graph (tables_of old) names.d names.m u w A B ds between tabled two (subst (λ z. IsRun linked.graph z names.m ds) e r))

  pub first_written : (kept gone : CycleId) (k : DartId) (ds : List DartId) → kept ≡ second → gone ≡ first → k ≡ next_in linked.graph names.m → IsRun linked.graph k names.d ds → all_on ds kept (both_on kept) ≡ recycled gone kept (both_on kept)
  first_written kept gone k ds p q e r =
      subst (λ (z : CycleId × CycleId). all_on ds z.0 (both_on z.0) ≡ recycled z.1 z.0 (both_on z.0)) (λ i. (sym p i, sym q i))
      (runs_are_steps.first_goes old.graph linked.graph (tables_of old) names.d names.m u w A B ds between tabled two (subst (λ z. IsRun linked.graph z names.d ds) e r))

  -- ---- all that is written
  module _ (run : RecordsView) (kept gone : CycleId) (ds : List DartId) (faces-1 : linked.faces ≡ record old.faces { tables = both_on kept }) (faces-2 : run.faces ≡ record linked.faces { tables = all_on ds kept linked.faces.tables }) (written : all_on ds kept (both_on kept) ≡ recycled gone kept (both_on kept)) where
    run_tables : run.faces.tables ≡ recycled gone kept (both_on kept)
    run_tables = ap (λ f. f.tables) faces-2 ∙ ap (λ f. all_on ds kept f.tables) faces-1 ∙ written

    pub cycle_stays : (c : CycleId) (k : DartId) → c ≡ cycle_in (tables_of old) k → HasDart old.graph k → HasCycle run.faces.tables c
    cycle_stays c k e o = subst (λ t. HasCycle t c) (sym run_tables) (subst (HasCycle (tables_of old)) (sym e) (map.sound.complete.cycle_has k o))

    -- and no dart is on the one that goes
    pub none_on : kept ≢ gone → graph_part run ≡ graph_part linked → (k : DartId) → HasDart run.graph k → cycle_in run.faces.tables k ≢ gone
    none_on n graph k o e =
        let rows = runs_are_steps.rows_linked old.graph linked.graph (tables_of old) names.d names.m u w between.line kept between.edge (rows_of old.graph (tables_of old) tabled) in
        none_left (both_on kept) gone kept n linked.graph rows k (subst (λ g. HasDart g k) (ap (λ p. p.graph) graph) o) (ap (λ t. cycle_in t k) (sym run_tables) ∙ e)

    module _ (new : RecordsView) (returned : IsReturned old) (fits : FitsJoin (tables_of old) A B kept gone) (spare : IsSpare linked old 0 2) (graph-2 : graph_part run ≡ graph_part linked) (tables-3 : new.faces.tables ≡ without_cycle gone run.faces.tables) (lists-3 : lists_of new ≡ cycle_unlisted gone (lists_of run)) (room : IsSpareFaces run.faces new.faces 1 0) (lent : new.faces.moved ≡ run.faces.moved) (graph-3 : graph_part new ≡ graph_part run) where
      whole : run.faces ≡ record old.faces { tables = all_on ds kept (both_on kept) }
      whole = let run_on : FacesView → FacesView = λ f. record f { tables = all_on ds kept f.tables } in faces-2 ∙ ap run_on faces-1

      last : graph_part new ≡ graph_part linked
      last = graph-3 ∙ graph-2

      made : new.graph ≡ add_edge old.graph names.d names.m u w (Some a) (Some b) l
      made = same_link old old linked new names.d names.m u w (Some a) (Some b) l (λ _. graph_part old) last is

      more : IsGraphSound new.graph
      more = same_sound old old linked new names.d names.m u w (Some a) (Some b) l (λ _. graph_part old) last sound

      apart : IsEdgeApart old.graph new.graph names.d names.m u w l
      apart = edge_linked old.graph new.graph names.d names.m u w (Some a) (Some b) l map.sound.graph can fresh made more

      stepped : tables_of new ≡ step_faces new.graph (tables_of old) (linked_faces names.d names.m u w (Some a) (Joins kept gone))
      stepped = tables-3 ∙ ap (without_cycle gone) run_tables

      listed : lists_of new ≡ cycle_unlisted gone (lists_of old)
      listed = lists-3 ∙ ap (cycle_unlisted gone) (ap lists_in_view whole)

      darts : AreDartsOn new.graph (tables_of new) (lists_of new)
      darts =
          let here = joined_darts old.graph new.graph names.d names.m u w l apart (tables_of old) (lists_of old) kept gone map.sound.complete.cycles_ascend (λ k. (map.sound.complete.cycle_rows k).0) map.darts in
          subst (λ t. AreDartsOn new.graph t (lists_of new)) (sym stepped) (subst (AreDartsOn new.graph (step_faces new.graph (tables_of old) (linked_faces names.d names.m u w (Some a) (Joins kept gone)))) (sym listed) here)

      pub join_made : IsLinkMade old new names u w (Some a) (Some b) l (Joins kept gone)
      join_made =
          let cycles : run.faces.spare_cycles ≡ old.faces.spare_cycles = ap (λ f. f.spare_cycles) whole in
          let rooms : run.faces.spare_faces ≡ old.faces.spare_faces = ap (λ f. f.spare_faces) whole in
          let more_cycles = room.of_cycles in
          let more_faces = room.of_faces in
          record {
            new_darts = fresh;
            graph = made;
            tables = stepped;
            fits = fits;
            lists = tt;
            map = record { sound = linked_map old.graph new.graph names.d names.m u w (Some a) (Some b) l map.sound.graph can fresh made more (tables_of old) (tables_of new) (Joins kept gone) map.sound stepped fits; darts = darts };
            spare = same_spare old old linked new names.d names.m u w (Some a) (Some b) l (λ _. graph_part old) last spare;
            spare_cycles = omega (arith, cycles, more_cycles);
            spare_faces = omega (arith, rooms, more_faces);
            capacity_of_cycles = room.capacity_of_cycles ∙ ap (λ f. f.capacity_of_cycles) whole;
            capacity_of_faces = room.capacity_of_faces ∙ ap (λ f. f.capacity_of_faces) whole;
            carried = subst IsSome (sym (lent ∙ ap (λ f. f.moved) whole)) returned;
          }
