-- A walk along a boundary, or round a vertex, comes back to the dart from which it began, and so has met all.
use Rattle.std.proofs.Common.{◌≡◌, ◌≢◌, ℕ, zero, suc, ◌<◌, ◌≤◌, true, cond, arith, refl, sym, ap, subst, inl, inr, List, [], ◌∷◌, ◌++◌, length, map, append_assoc, Option, Some, None}
use Rattle.std.specs.Prelude.{IfSome, IfNone, unwrap_or}
use Rattle.std.specs.List.{AllByRecursion}
use Rattle.std.proofs.lemmas.Bool.{false_from_ne_true}
use Rattle.plane_graphs.specs.Ascending.{Member}
use Rattle.plane_graphs.proofs.Ascending.{to_member, from_member}
use Rattle.plane_graphs.proofs.Lists.{of_map}
use Rattle.slab_laws.specs.declared.names.DartId.{DartId}
use Rattle.slab_laws.specs.declared.names.VertexId.{VertexId}
use Rattle.slab_laws.specs.FaceLists.{AreOnce}
use Rattle.slab_laws.specs.FacesSound.{IsSound}
use Rattle.slab_laws.specs.Sound.{IsGraphSound}
use Rattle.slab_laws.specs.Tables.{names}
use Rattle.slab_laws.specs.View.{View, Faces, HasDart, IsOutOf, dart_id, next_in, source_in}
use Rattle.arr_notes.specs.AfterAround.{after_in}
use Rattle.arr_notes.specs.CycleNames.{same_name}
use Rattle.arr_notes.proofs.Names.{cases_dart}
use Rattle.chain_laws.proofs.Distinct.{IsOnce, no_more}
use Rattle.sound_views.proofs.NameTables.{has_name, names_exact}
use Rattle.boundary_cycles.proofs.NamedWalks.{ways}
use Rattle.rotation_order.proofs.Circuits.{left}
use Rattle.dart_walks.specs.DartWalks.{AreAlong, AreRound}
use Rattle.dart_walks.specs.Turns.{onward, to_come, IsTurn, IsOnItsWay}
use Rattle.dart_walks.proofs.FaceWalks.{IsGoneAlong, along_begins, along_nearer, along_goes_on, along_ends, IsRoundSoFar, round_begins, round_nearer, round_goes_on, round_ends, none_round}
use Rattle.dart_walks.proofs.Turns.{whole}

-- ---- darts that have records, each once, are no more than there are
once_named : (ds : List DartId) → AreOnce ds → IsOnce (map (λ (d : DartId). d.0) ds)
once_named [] o = tt
once_named (d ∷ ds) o = (
  λ c. (let w = of_map (λ (e : DartId). e.0) d.0 ds (to_member (map (λ (e : DartId). e.0) ds) d.0 c) in o.0 (subst (λ (e : DartId). Member e ds) (ap dart_id (sym w.2)) w.1)),
  once_named ds o.1,
)

number_many : (ds : List DartId) → length (map (λ (d : DartId). d.0) ds) ≡ length ds
number_many [] = refl
number_many (d ∷ ds) = ap suc (number_many ds)

row_many : {X : Type 0} (rs : List (ℕ × X)) → length (names rs) ≡ length rs
row_many [] = refl
row_many (r ∷ rs) = ap suc (row_many rs)

few_darts : (v : View) (ds : List DartId) → AreOnce ds → ((d : DartId) → Member d ds → HasDart v d) → length ds ≤ length v.darts
few_darts v ds o h =
    let l = no_more (map (λ (d : DartId). d.0) ds) (names v.darts) (once_named ds o) (λ n c.
    let w = of_map (λ (e : DartId). e.0) n ds (to_member (map (λ (e : DartId). e.0) ds) n c) in
    from_member (names v.darts) n (subst (λ m. Member m (names v.darts)) (sym w.2) (has_name v.darts w.0.0 (h w.0 w.1)))) in
    omega (arith, number_many ds, row_many v.darts)

-- ---- the last step, and the others
back_again : (next : DartId → DartId) (first d : DartId) → next d ≡ first → onward next first d ≡ None
back_again next first d e = ap (λ b. cond b None (Some (next d))) (subst (λ z. same_name (next d) z ≡ true) e (names_exact.itself (next d)))

goes_on : (next : DartId → DartId) (first d : DartId) → next d ≢ first → onward next first d ≡ Some (next d)
goes_on next first d ne = ap (λ b. cond b None (Some (next d))) (false_from_ne_true _ (λ t. ne (names_exact.path (next d) first t)))

-- what comes from a dart on makes the list whole
record IsRest (next : DartId → DartId) (first at : DartId) (done : List DartId) (P : List DartId → Type 0) : Type 0 where
  rest : List DartId
  turn : IsTurn (onward next first) (Some at) rest
  makes : P (done ++ rest)

last_one : (next : DartId → DartId) (first at : DartId) (done : List DartId) (P : List DartId → Type 0) → next at ≡ first → P (done ++ (at ∷ [])) → IsRest next first at done P
last_one next first at done P e p = record { rest = at ∷ []; turn = (refl, back_again next first at e); makes = p }

one_more : (next : DartId → DartId) (first at : DartId) (done : List DartId) (P : List DartId → Type 0) → next at ≢ first → IsRest next first (next at) (done ++ (at ∷ [])) P → IsRest next first at done P
one_more next first at done P ne r = record {
  rest = at ∷ r.rest;
  turn = (refl, subst (λ o. IsTurn (onward next first) o r.rest) (sym (goes_on next first at ne)) r.turn);
  makes = subst P (append_assoc done (at ∷ []) r.rest) r.makes;
}

-- ---- what holds of each
all_of : (P : DartId → Type 0) (ds : List DartId) → ((d : DartId) → Member d ds → P d) → AllByRecursion P ds
all_of P [] h = tt
all_of P (d ∷ ds) h = (h d (inl refl), all_of P ds (λ e m. h e (inr m)))

on_its_way : (v : View) (next : DartId → DartId) (first : DartId) (at : Option DartId) (ds : List DartId) → IsTurn (onward next first) at ds → AreOnce ds → ((d : DartId) → Member d ds → HasDart v d) → IsOnItsWay v next first at
on_its_way v next first at ds t o h = record { darts = ds; turn = t; there = h; few = few_darts v ds o h }

-- ---- along a boundary
module _ (v : View) (f : Faces) (s : IsSound v f) (d : DartId) (D : HasDart v d) where
  rest_along : (n : ℕ) (at : DartId) (done : List DartId) → IsGoneAlong v d at done → ways v d (next_in v at) < n → IsRest (next_in v) d at done (AreAlong v f d)
  rest_along zero at done w l = absurd (omega arith)
  rest_along (suc n) at done w l = elim (cases_dart (next_in v at) d) [
    | inl e ↦ last_one (next_in v) d at done (AreAlong v f d) e (along_ends v s.graph d D at done w f s e)
    | inr ne ↦
        let k = along_nearer v s.graph d D at done w ne in
        one_more (next_in v) d at done (AreAlong v f d) ne (rest_along n (next_in v at) (done ++ (at ∷ [])) (along_goes_on v s.graph d D at done w ne) (omega arith))
  ]

  all_along : IsRest (next_in v) d d [] (AreAlong v f d)
  all_along = rest_along (suc (ways v d (next_in v d))) d [] (along_begins v s.graph d D) (omega arith)

  pub along_way : IsOnItsWay v (next_in v) d (Some d)
  along_way = on_its_way v (next_in v) d (Some d) all_along.rest all_along.turn all_along.makes.darts.once (λ e m. ((all_along.makes.darts.just e).0 m).0)

  pub along_whole : AreAlong v f d (to_come v (next_in v) d (Some d))
  along_whole = subst (AreAlong v f d) (sym (whole v (next_in v) d (Some d) all_along.rest all_along.turn (few_darts v all_along.rest all_along.makes.darts.once (λ e m. ((all_along.makes.darts.just e).0 m).0)))) all_along.makes

  pub along_have : AllByRecursion (HasDart v) (to_come v (next_in v) d (Some d))
  along_have = all_of (HasDart v) (to_come v (next_in v) d (Some d)) (λ e m. ((along_whole.darts.just e).0 m).0)

-- ---- round a vertex
module _ (v : View) (s : IsGraphSound v) (w : VertexId) (d : DartId) (out : IsOutOf v w d) where
  rest_round : (n : ℕ) (at : DartId) (done : List DartId) → IsRoundSoFar v d at done → left v d (after_in v at) < n → IsRest (after_in v) d at done (AreRound v (source_in v d))
  rest_round zero at done r l = absurd (omega arith)
  rest_round (suc n) at done r l = elim (cases_dart (after_in v at) d) [
    | inl e ↦ last_one (after_in v) d at done (AreRound v (source_in v d)) e (round_ends v s d out.0 at done r e)
    | inr ne ↦
        let k = round_nearer v s d out.0 at done r ne in
        one_more (after_in v) d at done (AreRound v (source_in v d)) ne (rest_round n (after_in v at) (done ++ (at ∷ [])) (round_goes_on v s d out.0 at done r ne) (omega arith))
  ]

  all_round : IsRest (after_in v) d d [] (AreRound v (source_in v d))
  all_round = rest_round (suc (left v d (after_in v d))) d [] (round_begins v s d out.0) (omega arith)

  round_way : IsOnItsWay v (after_in v) d (Some d)
  round_way = on_its_way v (after_in v) d (Some d) all_round.rest all_round.turn all_round.makes.darts.once (λ e m. ((all_round.makes.darts.just e).0 m).0)

  round_whole : AreRound v w (to_come v (after_in v) d (Some d))
  round_whole =
      subst (λ u. AreRound v u (to_come v (after_in v) d (Some d))) out.1
      (subst (AreRound v (source_in v d)) (sym (whole v (after_in v) d (Some d) all_round.rest all_round.turn (few_darts v all_round.rest all_round.makes.darts.once (λ e m. ((all_round.makes.darts.just e).0 m).0)))) all_round.makes)

-- from the dart out of the vertex that is known, if there is one
module _ (v : View) (s : IsGraphSound v) (w : VertexId) where
  pub round_way_from : (at : Option DartId) (first : DartId) → first ≡ unwrap_or at (dart_id 0) → IfSome at (IsOutOf v w) → IsOnItsWay v (after_in v) first at
  round_way_from None first e out = record { darts = []; turn = refl; there = λ d m. absurd m; few = omega arith }
  round_way_from (Some d) first e out = subst (λ x. IsOnItsWay v (after_in v) x (Some d)) (sym e) (round_way v s w d out)

  pub round_whole_from : (at : Option DartId) (first : DartId) → first ≡ unwrap_or at (dart_id 0) → IfSome at (IsOutOf v w) → IfNone at ((d : DartId) → ¬ IsOutOf v w d) → AreRound v w (to_come v (after_in v) first at)
  round_whole_from None first e out none = none_round v s w (to_come v (after_in v) first None) (whole v (after_in v) first None [] refl (omega arith)) none
  round_whole_from (Some d) first e out none = subst (λ x. AreRound v w (to_come v (after_in v) x (Some d))) (sym e) (round_whole v s w d out)

  pub round_have_from : (at : Option DartId) (first : DartId) → first ≡ unwrap_or at (dart_id 0) → IfSome at (IsOutOf v w) → IfNone at ((d : DartId) → ¬ IsOutOf v w d) → AllByRecursion (HasDart v) (to_come v (after_in v) first at)
  round_have_from at first e out none = all_of (HasDart v) (to_come v (after_in v) first at) (λ x m. (((round_whole_from at first e out none).darts.just x).0 m).0)
