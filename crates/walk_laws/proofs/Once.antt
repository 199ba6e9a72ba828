-- A walk up visits each face once: above what was passed on the boundary of one that it left, nothing leads to it again.
use Rattle.std.proofs.Common.{◌≡◌, ℕ, ◌+◌, ◌<◌, ◌≤◌, true, false, cond, arith, refl, sym, ap, ◌⊎◌, inl, inr, subst, List, [], ◌∷◌}
use Rattle.std.specs.Prelude.{◌==◌, ◌&&◌, Bool, leb, Option, Some, None}
use Rattle.std.specs.List.{sum_by}
use Rattle.std.proofs.lemmas.List.Sums.{sum_by-cons, sum_by-le-sum_by}
use Rattle.std.proofs.lemmas.Bool.{and_parts, and_from, or_cases, or_left, or_right, eqb-true, eq-eqb, leb-true, le-leb, false_from_ne_true}
use Rattle.exact_plane.specs.Point.{Point}
use Rattle.plane_graphs.specs.Ascending.{Member}
use Rattle.plane_graphs.specs.Line.{IsProper}
use Rattle.plane_graphs.proofs.Ascending.{to_member}
use Rattle.plane_graphs.proofs.Lists.{any_in, any_out, in_map, of_map}
use Rattle.slab_laws.specs.declared.names.DartId.{DartId}
use Rattle.slab_laws.specs.declared.names.FaceId.{FaceId}
use Rattle.slab_laws.specs.FacesSound.{IsSound}
use Rattle.slab_laws.specs.Skeleton.{precedes, under}
use Rattle.slab_laws.specs.Slabs.{right_below}
use Rattle.slab_laws.specs.Sound.{skeleton_of, edge_in, dart_in}
use Rattle.slab_laws.specs.View.{View, Faces, DartRecord, HasDart, HasFace, dart_id, face_id, cycle_in, face_in}
use Rattle.sound_views.proofs.NamedDarts.{edge_known}
use Rattle.sound_views.proofs.NameTables.{has_name, name_has}
use Rattle.edge_predicates.specs.Levels.{level}
use Rattle.face_changes.proofs.FacesByPairs.{told_by_pairs}
use Rattle.face_location.specs.Below.{IsSeenDart, IsSeenOrNone}
use Rattle.walk_laws.specs.Laws.{FacesAreVisitedOnce}
use Rattle.walk_laws.specs.Walks.{face_above, height, IsBoundaryPassed, is_seen, leads_to, is_ahead, size_ahead}
use Rattle.walk_laws.proofs.Stack.{in_level}

-- a sum that is less at one element by some number
less_by : (F G : ℕ → ℕ) (k w : ℕ) (xs : List ℕ) → Member w xs → k + F w ≤ G w → ((x : ℕ) → F x ≤ G x) → k + sum_by F xs ≤ sum_by G xs
less_by F G k w [] m a b = absurd m
less_by F G k w (x ∷ xs) (inl e) a b =
    let h : k + F x ≤ G x = subst (λ z. k + F z ≤ G z) e a in
    let l = sum_by-le-sum_by F G xs b in
    omega (arith, sum_by-cons F x xs, sum_by-cons G x xs)
less_by F G k w (x ∷ xs) (inr m) a b =
    let l = less_by F G k w xs m a b in
    let h = b x in
    omega (arith, sum_by-cons F x xs, sum_by-cons G x xs)

-- a face that counts in one sum counts in the other
counts : (size : FaceId → ℕ) (p q : Bool) (n : ℕ) → (p ≡ true → q ≡ true) → cond p (size (face_id n)) 0 ≤ cond q (size (face_id n)) 0
counts size false q n h = omega arith
counts size true q n h = rw (h refl) (omega arith)

one_face : (a b : FaceId) → (a.0 == b.0) ≡ true → a ≡ b
one_face a b h = ap face_id (eqb-true a.0 b.0 h)

module _ (v : View) (f : Faces) (q : Point) (s : IsSound v f) where
  seen_out : (d : DartId) → HasDart v d → is_seen v q d ≡ true → IsSeenDart v q d
  seen_out d D h =
      let a = and_parts (dart_in v d).forward _ h in
      let b = and_parts (precedes (edge_in v d).low q && precedes q (edge_in v d).high) (under (edge_in v d) q) a.1 in
      let c = and_parts (precedes (edge_in v d).low q) (precedes q (edge_in v d).high) b.0 in
      ((D, a.0), record { in' = edge_known v d D; spanning = record { from = c.0; to = c.1 }; lies_under = b.1 })

  seen_in : (d : DartId) → IsSeenDart v q d → is_seen v q d ≡ true
  seen_in d h = and_from _ _ h.0.1 (and_from _ _ (and_from _ _ h.1.spanning.from h.1.spanning.to) h.1.lies_under)

  -- ---- which faces are ahead
  here : (o : Option DartId) → is_ahead v f q o (face_above f o) ≡ true
  here o = or_left _ _ (eq-eqb (face_above f o).0 (face_above f o).0 refl)

  by_dart : (o : Option DartId) (d : DartId) → IsSeenDart v q d → height v q o ≤ level (skeleton_of v) q (edge_in v d) → is_ahead v f q o (face_in f (cycle_in f d)) ≡ true
  by_dart o d h l =
      let a : FaceId = face_in f (cycle_in f d) in
      let r = of_map (λ (t : ℕ × DartRecord). t.0) d.0 v.darts (has_name v.darts d.0 h.0.0) in
      or_right _ _ (any_in (λ (t : ℕ × DartRecord). leads_to v f q o a (dart_id t.0)) r.0 v.darts r.1
      (subst (λ (n : ℕ). leads_to v f q o a (dart_id n) ≡ true) r.2 (and_from _ _ (seen_in d h) (and_from _ _ (le-leb _ _ l) (eq-eqb a.0 a.0 refl)))))

  -- a dart that leads to the face
  record IsLead (o : Option DartId) (a : FaceId) : Type 0 where
    dart : DartId
    seen : IsSeenDart v q dart
    higher : height v q o ≤ level (skeleton_of v) q (edge_in v dart)
    face : face_in f (cycle_in f dart) ≡ a

  ahead_out : (o : Option DartId) (a : FaceId) → is_ahead v f q o a ≡ true → (a ≡ face_above f o) ⊎ IsLead o a
  ahead_out o a h = elim (or_cases _ _ h) [
    | inl e ↦ inl (one_face a (face_above f o) e)
    | inr k ↦
        let r = any_out (λ (t : ℕ × DartRecord). leads_to v f q o a (dart_id t.0)) v.darts k in
        let d : DartId = dart_id r.0.0 in
        let b = and_parts (is_seen v q d) _ r.2 in
        let c = and_parts (leb (height v q o) (level (skeleton_of v) q (edge_in v d))) _ b.1 in
        inr (record {
          dart = d;
          seen = seen_out d (name_has v.darts r.0.0 (in_map (λ (t : ℕ × DartRecord). t.0) r.0 v.darts r.1)) b.0;
          higher = leb-true _ _ c.0;
          face = one_face (face_in f (cycle_in f d)) a c.1;
        })
  ]

  has_face : (o : Option DartId) → IsSeenOrNone v q o → HasFace f (face_above f o)
  has_face None p = (told_by_pairs v f s).there
  has_face (Some d) p = s.complete.face_has (cycle_in f d) (s.complete.cycle_has d p.0.0)

  last : (size : FaceId → ℕ) (o : Option DartId) → IsSeenOrNone v q o → size (face_above f o) ≤ size_ahead size v f q o
  last size o p =
      let a : FaceId = face_above f o in
      let l = less_by (λ n. 0) (λ n. cond (is_ahead v f q o (face_id n)) (size (face_id n)) 0) (size a) a.0 f.faces (to_member f.faces a.0 (has_face o p)) (rw (here o) (omega arith)) (λ n. omega arith) in
      omega arith

  -- ---- from one face on to the next
  module _ (o p : Option DartId) (O : IsSeenOrNone v q o) (P : IsSeenOrNone v q p) (up : height v q o < height v q p) where
    -- the next face was ahead already
    next_ahead : (p : Option DartId) → IsSeenOrNone v q p → height v q o < height v q p → is_ahead v f q o (face_above f p) ≡ true
    next_ahead None P up = absurd (omega arith)
    next_ahead (Some d) P up = by_dart o d P (omega arith)

    still : (a : FaceId) → is_ahead v f q p a ≡ true → is_ahead v f q o a ≡ true
    still a h = elim (ahead_out p a h) [
      | inl e ↦ subst (λ (z : FaceId). is_ahead v f q o z ≡ true) (sym e) (next_ahead p P up)
      | inr k ↦ subst (λ (z : FaceId). is_ahead v f q o z ≡ true) k.face (let l = k.higher in by_dart o k.dart k.seen (omega arith))
    ]

    left : IsBoundaryPassed v f q p (face_above f o) → (face_above f p ≡ face_above f o → ⊥) → is_ahead v f q p (face_above f o) ≡ false
    left all other = false_from_ne_true _ (λ h. elim (ahead_out p (face_above f o) h) [
      | inl e ↦ other (sym e)
      | inr k ↦ let l = (all.darts k.dart k.seen.0.0 k.face).no_higher k.seen.1 in let m = k.higher in absurd (omega arith)
    ])

    next : (size : FaceId → ℕ) → IsBoundaryPassed v f q p (face_above f o) → (face_above f p ≡ face_above f o → ⊥) → size (face_above f o) + size_ahead size v f q p ≤ size_ahead size v f q o
    next size all other =
        let a : FaceId = face_above f o in
        less_by
        (λ n. cond (is_ahead v f q p (face_id n)) (size (face_id n)) 0)
        (λ n. cond (is_ahead v f q o (face_id n)) (size (face_id n)) 0)
        (size a) a.0 f.faces (to_member f.faces a.0 (has_face o O))
        (rw (left all other, here o) (omega arith))
        (λ n. counts size _ _ n (still (face_id n)))

bounded : (v : View) (f : Faces) (q : Point) (o : Option DartId) → IsSound v f → IsProper q → IsSeenOrNone v q o → height v q o ≤ right_below (skeleton_of v) q
bounded v f q None s Q p = omega arith
bounded v f q (Some d) s Q p = let l = in_level (skeleton_of v) q s.graph.plane Q.positive (edge_in v d) p.1 in omega arith

pub faces_are_visited_once : FacesAreVisitedOnce
faces_are_visited_once = record {
  next = λ size v f q o p s O P up all other. next v f q s o p O P up size all other;
  last = λ size v f q o s O. last v f q s size o O;
  bounded = bounded;
}
