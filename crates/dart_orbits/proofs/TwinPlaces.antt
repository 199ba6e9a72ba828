-- The places of twins, by tables of places along edges.
use Rattle.std.proofs.Common.{◌≡◌, ℕ, ◌+◌, ◌<◌, ◌≤◌, Bool, true, false, cond, not, List, [], ◌∷◌, ◌++◌, length, get_or, take, refl, sym, ap, ◌∙◌, subst, arith, inl, inr}
use Rattle.std.specs.Prelude.{slice_set}
use Rattle.std.proofs.Math.Bool.{beq}
use Rattle.std.proofs.lemmas.Bool.{cases_lt}
use Rattle.std.proofs.lemmas.List.{get_or-set_same, get_or-set_other}
use Rattle.slab_laws.specs.declared.rows.ListedDart.{ListedDart}
use Rattle.slab_laws.specs.Skeleton.{Skeleton, IsPlaneSkeleton}
use Rattle.slab_laws.specs.Rotation.{twin}
use Rattle.slab_laws.specs.Rows.{dart_list, no_dart, dart_at, edge_place, dart_place, dart_row, dart_rows, twin_places}
use Rattle.dart_orbits.specs.Along.{AreOnceEach, ArePlacesAlong}
use Rattle.dart_orbits.specs.DartRows.{row_dart}
use Rattle.dart_orbits.specs.Ways.{no_row, row_in}
use Rattle.dart_orbits.proofs.Pushed.{pushed, all_pushed}
use Rattle.dart_orbits.proofs.Listed.{dart_there, dart_within, dart_at_place, place_of_dart, rows_length, row_at, row_dart_is}

-- ---- directions
pub same_way : (a b : Bool) → beq a b ≡ true → a ≡ b
same_way true true e = refl
same_way true false e = cc
same_way false true e = cc
same_way false false e = refl

pub other_way : (a b : Bool) → beq a b ≡ false → a ≡ b → ⊥
other_way true true e h = cc
other_way true false e h = cc
other_way false true e h = cc
other_way false false e h = cc

-- ---- tables of places along edges
module _ (rows : List ListedDart) (once : AreOnceEach rows) (f : Bool) (n : ℕ) (now : List ℕ) (so_far : ArePlacesAlong rows f n now) where
  -- one more row in this direction
  pub placed_along : (new : List ℕ) → n < length rows → (row_in rows n).edge < length now → (row_in rows n).forward ≡ f → new ≡ slice_set now (row_in rows n).edge n → ArePlacesAlong rows f (n + 1) new
  placed_along new l b e s k m w h =
      let p = (row_in rows n).edge in
      ap (λ xs. get_or xs (row_in rows k).edge 0) s ∙ elim (cases_lt k n) [
        | inl a ↦ get_or-set_other now p (row_in rows k).edge n 0 (λ same. once k n a l same (h ∙ sym e)) ∙ so_far k a w h
        | inr a ↦ (let same : n ≡ k = omega arith in subst (λ (j : ℕ). get_or (slice_set now p n) (row_in rows j).edge 0 ≡ j) same (get_or-set_same now p n 0 b))
      ]

  -- and one in the other
  pub passed_along : ((row_in rows n).forward ≡ f → ⊥) → ArePlacesAlong rows f (n + 1) now
  passed_along ne k m w h = elim (cases_lt k n) [
    | inl a ↦ so_far k a w h
    | inr a ↦ absurd (let same : k ≡ n = omega arith in ne (subst (λ (j : ℕ). (row_in rows j).forward ≡ f) same h))
  ]

-- ---- the rows of a graph
module _ (g : Skeleton) (plane : IsPlaneSkeleton g) where
  listed : (k : ℕ) → k < length (dart_rows g) → k < length (dart_list g)
  listed k l = let n = rows_length g in omega arith

  read : (k : ℕ) → k < length (dart_rows g) → row_dart g.edges (row_in (dart_rows g) k) ≡ dart_at g k
  read k l = ap (row_dart g.edges) (row_at g plane k no_row (listed k l)) ∙ row_dart_is g plane (dart_at g k) (dart_there g plane k (listed k l))

  rows_once : AreOnceEach (dart_rows g)
  rows_once j k l m e f =
      let J : j < length (dart_rows g) = omega arith in
      let same : dart_at g j ≡ dart_at g k = sym (read j J) ∙ (λ i. record { edge = get_or g.edges (e i) no_dart.edge; forward = f i }) ∙ read k m in
      let p : j ≡ k = sym (place_of_dart g plane j (listed j J)) ∙ ap (dart_place g) same ∙ place_of_dart g plane k (listed k m) in
      absurd (omega arith)

  pub are_once : (rows : List ListedDart) → rows ≡ dart_rows g → AreOnceEach rows
  are_once rows e = subst AreOnceEach (sym e) rows_once

  abbrev TellsIn : List ListedDart → Type 0
  TellsIn rows = (k u : ℕ) (ahead back : List ℕ) → k < length rows → ArePlacesAlong rows true (length rows) ahead → ArePlacesAlong rows false (length rows) back → u ≡ get_or (cond (row_in rows k).forward back ahead) (row_in rows k).edge 0 → u ≡ dart_place g (twin (dart_at g k))

  tells : TellsIn (dart_rows g)
  tells k u ahead back l a b e =
      let d = dart_at g k in
      let K = listed k l in
      let E = dart_there g plane k K in
      let t = dart_place g (twin d) in
      let T : t < length (dart_list g) = dart_within g plane (twin d) E in
      let R : t < length (dart_rows g) = (let n = rows_length g in omega arith) in
      let is : row_in (dart_rows g) t ≡ dart_row g (twin d) = row_at g plane t no_row T ∙ ap (dart_row g) (dart_at_place g plane (twin d) E) in
      let own : row_in (dart_rows g) k ≡ dart_row g d = row_at g plane k no_row K in
      let at : (f : Bool) (vs : List ℕ) → not d.forward ≡ f → ArePlacesAlong (dart_rows g) f (length (dart_rows g)) vs → get_or vs (edge_place g d.edge) 0 ≡ t =
      λ f vs q h. sym (ap (λ r. get_or vs r.edge 0) is) ∙ h t R R (ap (λ r. r.forward) is ∙ q) in
      let go : (f : Bool) → d.forward ≡ f → get_or (cond f back ahead) (edge_place g d.edge) 0 ≡ t =
      λ f. elim f as (λ b. d.forward ≡ b → get_or (cond b back ahead) (edge_place g d.edge) 0 ≡ t) [ true ↦ λ q. at false back (ap not q) b | false ↦ λ q. at true ahead (ap not q) a ] in
      e ∙ ap (λ r. get_or (cond r.forward back ahead) r.edge 0) own ∙ go d.forward refl

  pub twin_pushed : (rows : List ListedDart) (k u : ℕ) (ahead back us vs : List ℕ) → rows ≡ dart_rows g → k < length rows → ArePlacesAlong rows true (length rows) ahead → ArePlacesAlong rows false (length rows) back → u ≡ get_or (cond (row_in rows k).forward back ahead) (row_in rows k).edge 0 → us ≡ take k (twin_places g) → vs ≡ us ++ (u ∷ []) → vs ≡ take (k + 1) (twin_places g)
  unfolding twin_places
  twin_pushed rows k u ahead back us vs e l a b t p q =
      pushed (λ d. dart_place g (twin d)) (dart_list g) k no_dart u us vs (let n = rows_length g in let m = ap length e in omega arith) (subst TellsIn (sym e) tells k u ahead back l a b t) p q

  pub twins_done : (rows : List ListedDart) (k : ℕ) (us : List ℕ) → rows ≡ dart_rows g → length rows ≤ k → us ≡ take k (twin_places g) → us ≡ twin_places g
  unfolding twin_places
  twins_done rows k us e l a = all_pushed (λ d. dart_place g (twin d)) (dart_list g) k us (let n = rows_length g in let m = ap length e in omega arith) a
