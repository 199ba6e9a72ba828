-- Pieces that are replaced one by one, along their order.
use Rattle.std.proofs.Common.{◌≡◌, ◌≢◌, ℕ, zero, suc, ◌+◌, ◌≤◌, ◌<◌, ◌==◌, Bool, true, false, cond, List, [], ◌∷◌, ◌++◌, length, map, take, drop, Option, Some, None, refl, sym, ap, subst, ◌∙◌, arith}
use Rattle.std.specs.List.{filter, flat_map, AllByRecursion, IsDistinct}
use Rattle.std.proofs.lemmas.List.{length-append, length-map, length-take-le, append_assoc, append-nil, drop_all, map-append, take-append-drop}
use Rattle.std.proofs.lemmas.List.Concat.{flat_map-append}
use Rattle.exact_plane.specs.Point.{Point}
use Rattle.plane_graphs.specs.Ascending.{Member}
use Rattle.plane_graphs.specs.Piece.{Piece}
use Rattle.edit_steps.specs.Steps.{cut_piece}
use Rattle.slab_laws.specs.FaceLists.{first_of}
use Rattle.slab_laws.specs.Pieces.{piece_of}
use Rattle.slab_laws.specs.Tables.{names}
use Rattle.slab_laws.specs.declared.present.Piece.{Piece as PieceInMemory}
use Rattle.curve_pieces.specs.PieceRows.{Rowed, HasPiece}
use Rattle.curve_history.specs.declared.cuts.CutPlan.{CutPlan}
use Rattle.curve_history.specs.Cuts.{kept_whole, leaves_some, modelled, rests_of, AreWhole, IsPlanOfCut, IsReplaced}
use Rattle.curve_history.proofs.Cutting.{no_fewer, whole_rests}
use Rattle.curve_history.proofs.Replaced.{Row, has_split, in_split, only_piece}

-- so many pieces were replaced, and the next one has this name
pub record IsWalked (f : Piece → List Piece) (old now : Rowed) (place : ℕ) (at : Option ℕ) : Type 0 where
  pub pre : List Row
  pub done : List Row
  pub todo : List Row
  pub was : old.rows ≡ pre ++ todo
  pub is : now.rows ≡ done ++ todo
  pub far : length pre ≡ place
  pub put : modelled done ≡ flat_map f (modelled pre)
  pub next : at ≡ first_of (names todo)
  pub capacity : now.capacity ≡ old.capacity

modelled-append : (xs ys : List Row) → modelled (xs ++ ys) ≡ modelled xs ++ modelled ys
modelled-append xs ys = ap (map piece_of) (map-append (λ (r : Row). r.1) xs ys) ∙ map-append piece_of (map (λ (r : Row). r.1) xs) (map (λ (r : Row). r.1) ys)

pub length-modelled : (xs : List Row) → length (modelled xs) ≡ length xs
length-modelled xs = length-map (map (λ (r : Row). r.1) xs) piece_of ∙ length-map xs (λ (r : Row). r.1)

module _ (f : Piece → List Piece) (old now : Rowed) (place : ℕ) (at : Option ℕ) (w : IsWalked f old now place at) where
  -- the next one
  module _ (n : ℕ) (e : at ≡ Some n) where
    record IsAhead (todo : List Row) : Type 0 where
      piece : PieceInMemory
      rest : List Row
      ahead : todo ≡ (n, piece) ∷ rest

    next_of : (todo : List Row) → at ≡ first_of (names todo) → IsAhead todo
    next_of [] q = let z : Some n ≡ None = sym e ∙ q in absurd (cc)
    next_of (r ∷ rs) q = let s : n ≡ r.0 = (let z : Some n ≡ Some r.0 = sym e ∙ q in cc) in record { piece = r.1; rest = rs; ahead = ap (λ m. (m, r.1) ∷ rs) (sym s) }

    here : IsAhead w.todo
    here = next_of w.todo w.next

    rows : now.rows ≡ w.done ++ (n, here.piece) ∷ here.rest
    rows = w.is ∙ ap (λ xs. w.done ++ xs) here.ahead

    pub is_there : HasPiece now n
    is_there = has_split now.rows w.done here.rest n here.piece rows

    pub walked_on : (r : Option ℕ) → ((before after : List Row) (k : PieceInMemory) → now.rows ≡ before ++ (n, k) ∷ after → r ≡ first_of (names after)) → (new : Rowed) → IsReplaced f now new n → new.capacity ≡ now.capacity → IsWalked f old new (place + 1) r
    walked_on r after new replaced c =
        let g = replaced w.done here.rest here.piece rows in
        record {
          pre = w.pre ++ (n, here.piece) ∷ [];
          done = w.done ++ g.0;
          todo = here.rest;
          was = w.was ∙ ap (λ xs. w.pre ++ xs) here.ahead ∙ sym (append_assoc w.pre ((n, here.piece) ∷ []) here.rest);
          is = g.1 ∙ sym (append_assoc w.done g.0 here.rest);
          far = let l = length-append w.pre ((n, here.piece) ∷ []) in omega (arith, l, w.far);
          put =
              modelled-append w.done g.0 ∙ ap (λ xs. xs ++ modelled g.0) w.put ∙ ap (λ xs. flat_map f (modelled w.pre) ++ xs) (g.2 ∙ sym (append-nil (f (piece_of here.piece))))
              ∙ sym (ap (flat_map f) (modelled-append w.pre ((n, here.piece) ∷ [])) ∙ flat_map-append f (modelled w.pre) (piece_of here.piece ∷ []));
          next = after w.done here.rest here.piece rows;
          capacity = c ∙ w.capacity;
        }

    -- what is left fits, if at least one is left of each that is still to come
    pub fits : IsDistinct ◌==◌ (names now.rows) → AllByRecursion (λ k. 1 ≤ length (f k)) (modelled old.rows) → length (flat_map f (modelled old.rows)) ≤ old.capacity → (k : PieceInMemory) → Member (n, k) now.rows → length now.rows + length (f (piece_of k)) ≤ now.capacity + 1
    fits d some room k m =
        let q : here.piece ≡ k = only_piece now.rows d n here.piece k (in_split now.rows w.done here.rest n here.piece rows) m in
        subst (λ j. length now.rows + length (f (piece_of j)) ≤ now.capacity + 1) q within
      where
        all : modelled old.rows ≡ modelled w.pre ++ (piece_of here.piece ∷ modelled here.rest)
        all = ap modelled (w.was ∙ ap (λ xs. w.pre ++ xs) here.ahead) ∙ modelled-append w.pre ((n, here.piece) ∷ here.rest)

        behind : (xs ys : List Piece) → AllByRecursion (λ k. 1 ≤ length (f k)) (xs ++ ys) → AllByRecursion (λ k. 1 ≤ length (f k)) ys
        behind [] ys a = a
        behind (x ∷ xs) ys a = behind xs ys a.1

        rest_some : AllByRecursion (λ k. 1 ≤ length (f k)) (modelled here.rest)
        rest_some = (behind (modelled w.pre) (piece_of here.piece ∷ modelled here.rest) (subst (AllByRecursion (λ k. 1 ≤ length (f k))) all some)).1

        within : length now.rows + length (f (piece_of here.piece)) ≤ now.capacity + 1
        within =
            let a = ap length rows in
            let b = length-append w.done ((n, here.piece) ∷ here.rest) in
            let c = ap length (ap (flat_map f) all ∙ flat_map-append f (modelled w.pre) (piece_of here.piece ∷ modelled here.rest)) in
            let e = length-append (flat_map f (modelled w.pre)) (f (piece_of here.piece) ++ flat_map f (modelled here.rest)) in
            let g = length-append (f (piece_of here.piece)) (flat_map f (modelled here.rest)) in
            let h = ap length w.put in
            let i = length-modelled w.done in
            let j = no_fewer f (modelled here.rest) rest_some in
            let l = length-modelled here.rest in
            omega (arith, a, b, c, e, g, h, i, j, l, room, w.capacity)

  -- where none is to come, all were replaced
  none_todo : (todo : List Row) → at ≡ first_of (names todo) → at ≡ None → todo ≡ []
  none_todo [] q e = refl
  none_todo (r ∷ rs) q e = let z : None ≡ Some r.0 = sym e ∙ q in absurd (cc)

  pub ended : at ≡ None → (modelled now.rows ≡ flat_map f (modelled old.rows)) × (length old.rows ≤ place)
  ended e =
      let t = none_todo w.todo w.next e in
      let was : old.rows ≡ w.pre = w.was ∙ ap (λ xs. w.pre ++ xs) t ∙ append-nil w.pre in
      let is : now.rows ≡ w.done = w.is ∙ ap (λ xs. w.done ++ xs) t ∙ append-nil w.done in
      (ap modelled is ∙ w.put ∙ ap (λ xs. flat_map f (modelled xs)) (sym was), (let a = ap length was in omega (arith, a, w.far)))

  -- at the end of the walk, those behind are as they were
  pub all_walked : length old.rows ≤ place → modelled now.rows ≡ flat_map f (modelled old.rows)
  all_walked h = (ended (none w.todo w.next (let a = ap length w.was in let b = length-append w.pre w.todo in omega (arith, a, b, h, w.far)))).0
    where
      none : (todo : List Row) → at ≡ first_of (names todo) → length todo ≤ 0 → at ≡ None
      none [] q l = q
      none (r ∷ rs) q l = absurd (omega (arith, l))

-- ---- pieces that are only passed
abbrev pub as_it_is : Piece → List Piece
as_it_is k = k ∷ []

pub passed : (now : Rowed) (n : ℕ) → IsReplaced as_it_is now now n
passed now n before after k q = ((n, k) ∷ [], q, refl)

drop_front : (xs ys : List Row) → drop (length xs) (xs ++ ys) ≡ ys
drop_front [] ys = refl
drop_front (x ∷ xs) ys = drop_front xs ys

pub walked_to : (f : Piece → List Piece) (old now : Rowed) (place : ℕ) (at : Option ℕ) → IsWalked f old now place at → at ≡ first_of (names (drop place old.rows))
walked_to f old now place at w = w.next ∙ ap (λ xs. first_of (names xs)) (sym (ap (drop place) w.was ∙ ap (λ i. drop i (w.pre ++ w.todo)) (sym w.far) ∙ drop_front w.pre w.todo))

pub passed_all : (f : Piece → List Piece) (old now : Rowed) (place : ℕ) (at : Option ℕ) → IsWalked f old now place at → at ≡ None → (to : ℕ) → place ≤ to → None ≡ first_of (names (drop to old.rows))
passed_all f old now place at w e to h = sym (ap (λ xs. first_of (names xs)) (drop_all to old.rows (let g = (ended f old now place at w e).1 in omega (arith, g, h))))

-- ---- from the first piece
pub walk_begins : (f : Piece → List Piece) (old : Rowed) (at : Option ℕ) → at ≡ first_of (names old.rows) → IsWalked f old old 0 at
walk_begins f old at e = record { pre = []; done = []; todo = old.rows; was = refl; is = refl; far = refl; put = refl; next = e; capacity = refl }

pub kept_is : (a b : Point) (ks : List Piece) → flat_map (kept_whole a b) ks ≡ filter (leaves_some a b) ks
kept_is a b [] = refl
kept_is a b (k ∷ ks) = by (leaves_some a b k) ∙ ap (λ xs. cond (leaves_some a b k) (k ∷ xs) xs) (kept_is a b ks)
  where
    by : (t : Bool) → cond t (k ∷ []) [] ++ flat_map (kept_whole a b) ks ≡ cond t (k ∷ flat_map (kept_whole a b) ks) (flat_map (kept_whole a b) ks)
    by true = refl
    by false = refl

-- ---- along the run of a plan
module _ (a b : Point) (old : Rowed) (plan : CutPlan) (p : IsPlanOfCut a b (modelled old.rows) plan) where
  model_parts : (i : ℕ) → (modelled (take i old.rows) ≡ take i (modelled old.rows)) × (modelled (drop i old.rows) ≡ drop i (modelled old.rows))
  model_parts i = both i old.rows
    where
      both : (i : ℕ) (rs : List Row) → (modelled (take i rs) ≡ take i (modelled rs)) × (modelled (drop i rs) ≡ drop i (modelled rs))
      both zero rs = (refl, refl)
      both (suc i) [] = (refl, refl)
      both (suc i) (r ∷ rs) = let h = both i rs in (ap (λ xs. piece_of r.1 ∷ xs) h.0, h.1)

  pub run_begins : (at : Option ℕ) → at ≡ first_of (names (drop plan.first old.rows)) → IsWalked (cut_piece a b) old old plan.first at
  run_begins at e = record {
    pre = take plan.first old.rows;
    done = take plan.first old.rows;
    todo = drop plan.first old.rows;
    was = sym (take-append-drop plan.first old.rows);
    is = sym (take-append-drop plan.first old.rows);
    far = length-take-le plan.first old.rows (let l = length-modelled old.rows in omega (arith, l, p.run, p.within));
    put = sym (whole_rests a b (modelled (take plan.first old.rows)) (subst (AreWhole a b) (sym (model_parts plan.first).0) p.before));
    next = e;
    capacity = refl;
  }

  -- behind the run all stay whole
  pub run_ends : (now : Rowed) (place : ℕ) (at : Option ℕ) → IsWalked (cut_piece a b) old now place at → place ≡ plan.end → modelled now.rows ≡ rests_of a b (modelled old.rows)
  run_ends now place at w e =
      ap modelled w.is ∙ modelled-append w.done w.todo ∙ ap (λ xs. xs ++ modelled w.todo) w.put
      ∙ ap (λ xs. flat_map (cut_piece a b) (modelled w.pre) ++ xs) (sym (whole_rests a b (modelled w.todo) (subst (AreWhole a b) behind p.behind)))
      ∙ sym (ap (rests_of a b) (ap modelled w.was ∙ modelled-append w.pre w.todo) ∙ flat_map-append (cut_piece a b) (modelled w.pre) (modelled w.todo))
    where
      behind : drop plan.end (modelled old.rows) ≡ modelled w.todo
      behind = sym (model_parts plan.end).1 ∙ ap modelled (ap (drop plan.end) w.was ∙ ap (λ i. drop i (w.pre ++ w.todo)) (sym (w.far ∙ e)) ∙ drop_front w.pre w.todo)

  -- inside it one is to come
  pub run_goes_on : (now : Rowed) (place : ℕ) (at : Option ℕ) → IsWalked (cut_piece a b) old now place at → place < plan.end → at ≢ None
  run_goes_on now place at w h e = let g = (ended (cut_piece a b) old now place at w e).1 in let l = length-modelled old.rows in absurd (omega (arith, g, h, l, p.within))

  pub room_in : plan.left ≤ old.capacity → length (rests_of a b (modelled old.rows)) ≤ old.capacity
  room_in h = omega (arith, h, p.left)
