-- Maps of isolated vertices and names of faces, filled from rows whose names ascend.
use Rattle.std.proofs.Common.{◌≡◌, ℕ, ◌<◌, ◌+◌, List, [], ◌∷◌, ◌++◌, length, take, drop, get_or, map, flat_map, Option, Some, None, nat_cmp, refl, sym, ap, ◌∙◌, subst, arith}
use Rattle.std.specs.BTreeSet.{insert_key}
use Rattle.std.proofs.lemmas.List.{append-nil, take_more, take-append-drop}
use Rattle.std.proofs.lemmas.List.Concat.{flat_map-append}
use Rattle.slab_laws.specs.declared.names.FaceId.{FaceId}
use Rattle.slab_laws.specs.declared.names.VertexId.{VertexId}
use Rattle.slab_laws.specs.Tables.{names, NamesAscend}
use Rattle.arr_notes.specs.FaceWriters.{put_name}
use Rattle.arr_notes.specs.ViewRows.{bare_row}
use Rattle.arr_notes.specs.declared.view.VertexRow.{VertexRow}
use Rattle.integers.proofs.Tests.{nat_lt_no, other_number}
use Rattle.mirror_observer.specs.FaceTables.{put_row}
use Rattle.mirror_observer.specs.Tables.{rows}
use Rattle.mirror_observer.proofs.Filling.{all_last, ascend_front, put_last, names_end}
use Rattle.mirror_observer.proofs.NameKeys.{name_inserted}

-- rows that are read as they are
pub rows_same : {X : Type 0} (es : List (ℕ × X)) → rows (λ x. x) es ≡ es
rows_same [] = refl
rows_same (e ∷ es) = ap (λ xs. e ∷ xs) (rows_same es)

-- ---- isolated vertices
abbrev pub bare_in_row : VertexRow → List (ℕ × FaceId)
bare_in_row r = bare_row r.name r.face

names_append : (xs ys : List (ℕ × FaceId)) → names (xs ++ ys) ≡ names xs ++ names ys
names_append [] ys = refl
names_append (x ∷ xs) ys = ap (λ ns. x.0 ∷ ns) (names_append xs ys)

at_end : (u : VertexId) (o : Option FaceId) (es : List (ℕ × FaceId)) → NamesAscend (names (es ++ bare_row u o)) → put_row (bare_row u o) es ≡ es ++ bare_row u o
at_end u None es a = sym (append-nil es)
at_end u (Some x) es a = put_last u.0 x es (subst (λ ns. NamesAscend ns) (names_end es u.0 x) a)

module _ (xs : List VertexRow) (asc : NamesAscend (names (flat_map bare_in_row xs))) where
  pub bare_more : (i : ℕ) (r z : VertexRow) (es fs : List (ℕ × FaceId)) → i < length xs → r ≡ get_or xs i z → es ≡ flat_map bare_in_row (take i xs) → fs ≡ put_row (bare_in_row r) es → fs ≡ flat_map bare_in_row (take (i + 1) xs)
  bare_more i r z es fs l is so e =
      let more : take (i + 1) xs ≡ take i xs ++ r ∷ [] = take_more xs i z l ∙ ap (λ z. take i xs ++ z ∷ []) (sym is) in
      let both : flat_map bare_in_row (take (i + 1) xs) ≡ flat_map bare_in_row (take i xs) ++ bare_in_row r =
      ap (flat_map bare_in_row) more ∙ flat_map-append bare_in_row (take i xs) (r ∷ []) ∙ ap (λ z. flat_map bare_in_row (take i xs) ++ z) (append-nil (bare_in_row r)) in
      let whole : flat_map bare_in_row xs ≡ flat_map bare_in_row (take (i + 1) xs) ++ flat_map bare_in_row (drop (i + 1) xs) =
      ap (flat_map bare_in_row) (sym (take-append-drop (i + 1) xs)) ∙ flat_map-append bare_in_row (take (i + 1) xs) (drop (i + 1) xs) in
      let a : NamesAscend (names (flat_map bare_in_row (take (i + 1) xs))) =
      ascend_front (names (flat_map bare_in_row (take (i + 1) xs))) (names (flat_map bare_in_row (drop (i + 1) xs)))
      (subst (λ ns. NamesAscend ns) (ap names whole ∙ names_append (flat_map bare_in_row (take (i + 1) xs)) (flat_map bare_in_row (drop (i + 1) xs))) asc) in
      e ∙ ap (put_row (bare_in_row r)) so ∙ at_end r.name r.face (flat_map bare_in_row (take i xs)) (subst (λ rs. NamesAscend (names rs)) both a) ∙ sym both

-- ---- names of faces
abbrev pub face_numbers : List FaceId → List ℕ
face_numbers xs = map (λ a. a.0) xs

name_last : (k : ℕ) (ns : List ℕ) → NamesAscend (ns ++ k ∷ []) → put_name k ns ≡ ns ++ k ∷ []
unfolding put_name
name_last k [] h = refl
name_last k (n ∷ ns) h =
    let l : n < k = all_last (λ m. n < m) ns k h.0 in
    rw (nat_lt_no k n (omega arith), other_number n k (λ e. absurd (omega (arith, e)))) (ap (λ ms. n ∷ ms) (name_last k ns h.1))

numbers_both : (xs ys : List FaceId) → face_numbers (xs ++ ys) ≡ face_numbers xs ++ face_numbers ys
numbers_both [] ys = refl
numbers_both (x ∷ xs) ys = ap (λ ns. x.0 ∷ ns) (numbers_both xs ys)

module _ (xs : List FaceId) (asc : NamesAscend (face_numbers xs)) where
  pub faces_more : (i : ℕ) (z : FaceId) (ks ls : List ℕ) → i < length xs → ks ≡ face_numbers (take i xs) → ls ≡ insert_key nat_cmp ks (get_or xs i z).0 → ls ≡ face_numbers (take (i + 1) xs)
  faces_more i z ks ls l so e =
      let x : FaceId = get_or xs i z in
      let both : face_numbers (take (i + 1) xs) ≡ face_numbers (take i xs) ++ x.0 ∷ [] = ap face_numbers (take_more xs i z l) ∙ numbers_both (take i xs) (x ∷ []) in
      let whole : face_numbers xs ≡ face_numbers (take (i + 1) xs) ++ face_numbers (drop (i + 1) xs) = ap face_numbers (sym (take-append-drop (i + 1) xs)) ∙ numbers_both (take (i + 1) xs) (drop (i + 1) xs) in
      let a : NamesAscend (face_numbers (take (i + 1) xs)) = ascend_front (face_numbers (take (i + 1) xs)) (face_numbers (drop (i + 1) xs)) (subst (λ ns. NamesAscend ns) whole asc) in
      e ∙ name_inserted x.0 ks ∙ ap (put_name x.0) so ∙ name_last x.0 (face_numbers (take i xs)) (subst (λ ns. NamesAscend ns) both a) ∙ sym both
