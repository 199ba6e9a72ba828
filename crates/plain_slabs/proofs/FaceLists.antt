-- Faces that are added one by one are the faces of the model, each once.
use Rattle.std.proofs.Common.{◌≡◌, ℕ, ◌+◌, ◌<◌, ◌≤◌, Bool, true, false, cond, refl, sym, ap, subst, ◌∙◌, inl, inr, List, [], ◌∷◌, ◌++◌, map, length, fold, get_or, take}
use Rattle.std.specs.Prelude.{filter, not, ◌&&◌, ◌||◌}
use Rattle.std.specs.List.{list_any}
use Rattle.std.proofs.lemmas.Bool.{cases_Bool}
use Rattle.std.proofs.lemmas.List.{append-nil, append_assoc, take_all, take_more, map_push, map-append}
use Rattle.std.proofs.lemmas.List.Elements.{filter-append}
use Rattle.std.proofs.lemmas.List.Folds.{list_any-append}
use Rattle.std.proofs.lemmas.List.Sums.{fold_push, fold-append}
use Rattle.slab_laws.specs.declared.slab_cell.SlabCell.{SlabCell}
use Rattle.slab_laws.specs.declared.rows.CycleRow.{CycleRow}
use Rattle.slab_laws.specs.Skeleton.{Skeleton}
use Rattle.slab_laws.specs.Faces.{same_cell, face_labels, face_of, cells}
use Rattle.slab_laws.specs.Listed.{distinct}
use Rattle.slab_laws.specs.Kinds.{kind_by, is_outer}
use Rattle.slab_laws.specs.Rows.{cycle_row, cycle_rows}
use Rattle.slab_laws.specs.Subdivision.{Cycle, subdivision, first_cell}
use Rattle.slab_faces.proofs.FacesLemmas.{cells_exact}
use Rattle.sound_views.proofs.RankedFaces.{cycles_are, outer_faces, all_faces, faces_are}
use Rattle.sound_views.proofs.FirstDarts.{all_kept, twice}
use Rattle.plain_slabs.specs.Faces.{added}
use Rattle.plain_slabs.proofs.CellOrder.{cell_equivalence}

-- the faces have no such one
abbrev is_new : List SlabCell → SlabCell → Bool
is_new fs f = not (list_any (same_cell f) fs)

abbrev differs : (f g : SlabCell) → Bool
differs f g = not (same_cell f g)

stands : (fs : List SlabCell) (f : SlabCell) → list_any (same_cell f) fs ≡ true → added fs f ≡ fs
stands fs f e = rw e refl

stands_not : (fs : List SlabCell) (f : SlabCell) → list_any (same_cell f) fs ≡ false → added fs f ≡ fs ++ f ∷ []
stands_not fs f e = rw e refl

passed_over : (fs : List SlabCell) (f g : SlabCell) → list_any (same_cell f) fs ≡ true → is_new fs g ≡ (differs f g && is_new fs g)
passed_over fs f g e =
    elim (cases_Bool (same_cell f g)) [
      | inl s ↦ rw (s, subst (λ h. list_any (same_cell h) fs ≡ true) (cells_exact.path f g s) e) refl
      | inr s ↦ rw s refl
    ]

either : (a b : Bool) → not (a || (b || false)) ≡ (not b && not a)
either true true = refl
either true false = refl
either false true = refl
either false false = refl

new_after : (fs : List SlabCell) (f g : SlabCell) → is_new (fs ++ f ∷ []) g ≡ (differs f g && is_new fs g)
new_after fs f g =
    ap not (list_any-append (same_cell g) fs (f ∷ []))
    ∙ either (list_any (same_cell g) fs) (same_cell g f)
    ∙ ap (λ b. not b && is_new fs g) (cell_equivalence.symm g f)

folded : (fs xs : List SlabCell) → fold added fs xs ≡ fs ++ filter (is_new fs) (distinct same_cell xs)
unfolding distinct
folded fs [] = sym (append-nil fs)
folded fs (x ∷ xs) =
    elim (cases_Bool (list_any (same_cell x) fs)) [
      | inl e ↦
          ap (λ gs. fold added gs xs) (stands fs x e)
          ∙ folded fs xs
          ∙ ap (λ ys. fs ++ ys) (sym (twice (is_new fs) (differs x) (is_new fs) (distinct same_cell xs) (λ y. passed_over fs x y e)))
          ∙ sym (ap (λ b. fs ++ cond (not b) (x ∷ filter (is_new fs) (filter (differs x) (distinct same_cell xs))) (filter (is_new fs) (filter (differs x) (distinct same_cell xs)))) e)
      | inr e ↦
          ap (λ gs. fold added gs xs) (stands_not fs x e)
          ∙ folded (fs ++ x ∷ []) xs
          ∙ append_assoc fs (x ∷ []) (filter (is_new (fs ++ x ∷ [])) (distinct same_cell xs))
          ∙ ap (λ ys. fs ++ x ∷ ys) (sym (twice (is_new fs) (differs x) (is_new (fs ++ x ∷ [])) (distinct same_cell xs) (λ y. new_after fs x y)))
          ∙ sym (ap (λ b. fs ++ cond (not b) (x ∷ filter (is_new fs) (filter (differs x) (distinct same_cell xs))) (filter (is_new fs) (filter (differs x) (distinct same_cell xs)))) e)
    ]

-- ---- the faces of outer cycles
abbrev pub outer_of : List CycleRow → List SlabCell
outer_of cs = map (λ c. c.face) (filter (λ c. is_outer c.kind) cs)

rows_outer : (g : Skeleton) (cs : List Cycle) → outer_of (map (cycle_row g) cs) ≡ map (λ c. c.face) (filter (λ c. c.outer) cs)
rows_outer g [] = refl
rows_outer g (c ∷ cs) = step c.outer (rows_outer g cs)
  where
    step : (b : Bool) → outer_of (map (cycle_row g) cs) ≡ map (λ c. c.face) (filter (λ c. c.outer) cs) → map (λ (c : CycleRow). c.face) (cond (is_outer (kind_by b)) (cycle_row g c ∷ filter (λ c. is_outer c.kind) (map (cycle_row g) cs)) (filter (λ c. is_outer c.kind) (map (cycle_row g) cs))) ≡ map (λ (c : Cycle). c.face) (cond b (c ∷ filter (λ c. c.outer) cs) (filter (λ c. c.outer) cs))
    step true e = ap (λ fs. c.face ∷ fs) e
    step false e = e

outer_are : (g : Skeleton) → outer_of (cycle_rows g) ≡ outer_faces g
unfolding cycle_rows
outer_are g = rows_outer g (subdivision g).cycles ∙ ap (λ cs. map (λ (c : Cycle). c.face) (filter (λ c. c.outer) cs)) (cycles_are g)

-- ---- the faces after each loop
-- the unbounded face
abbrev pub first_faces : Skeleton → List SlabCell
first_faces g = added [] (face_of (face_labels g) first_cell)

module _ (g : Skeleton) where
  -- those, and those of the cycles
  abbrev pub with_cycles : List CycleRow → List SlabCell
  with_cycles cs = fold added (first_faces g) (outer_of cs)

  -- those, and those of the cells
  abbrev pub with_cells : List SlabCell → List SlabCell
  with_cells ds = fold added (with_cycles (cycle_rows g)) (map (face_of (face_labels g)) ds)

  more_cycles : (cs : List CycleRow) (c : CycleRow) → with_cycles (cs ++ c ∷ []) ≡ fold added (with_cycles cs) (outer_of (c ∷ []))
  more_cycles cs c =
      ap (fold added (first_faces g)) (ap (map (λ (c : CycleRow). c.face)) (filter-append (λ (c : CycleRow). is_outer c.kind) cs (c ∷ [])) ∙ map-append (λ (c : CycleRow). c.face) (filter (λ c. is_outer c.kind) cs) (filter (λ c. is_outer c.kind) (c ∷ [])))
      ∙ fold-append added (first_faces g) (outer_of cs) (outer_of (c ∷ []))

  -- one more cycle, an outer one, and one that isn't
  pub cycle_taken : (cs : List CycleRow) (i : ℕ) (d : CycleRow) (old now : List SlabCell) → i < length cs → is_outer (get_or cs i d).kind ≡ true → old ≡ with_cycles (take i cs) → now ≡ added old (get_or cs i d).face → now ≡ with_cycles (take (i + 1) cs)
  cycle_taken cs i d old now h t o n =
      let c : CycleRow = get_or cs i d in
      n
      ∙ ap (λ fs. added fs c.face) o
      ∙ sym (ap with_cycles (take_more cs i d h) ∙ more_cycles (take i cs) c ∙ ap (λ b. fold added (with_cycles (take i cs)) (map (λ (c : CycleRow). c.face) (cond b (c ∷ []) []))) t)

  pub cycle_passed : (cs : List CycleRow) (i : ℕ) (d : CycleRow) (old now : List SlabCell) → i < length cs → is_outer (get_or cs i d).kind ≡ false → old ≡ with_cycles (take i cs) → now ≡ old → now ≡ with_cycles (take (i + 1) cs)
  cycle_passed cs i d old now h t o n =
      let c : CycleRow = get_or cs i d in
      n
      ∙ o
      ∙ sym (ap with_cycles (take_more cs i d h) ∙ more_cycles (take i cs) c ∙ ap (λ b. fold added (with_cycles (take i cs)) (map (λ (c : CycleRow). c.face) (cond b (c ∷ []) []))) t)

  -- one more cell, whose face was asked of the labels
  pub cell_taken : (ds : List SlabCell) (i : ℕ) (d f : SlabCell) (old now : List SlabCell) → i < length ds → f ≡ face_of (face_labels g) (get_or ds i d) → old ≡ with_cells (take i ds) → now ≡ added old f → now ≡ with_cells (take (i + 1) ds)
  cell_taken ds i d f old now h e o n =
      let faces : List SlabCell = map (face_of (face_labels g)) (take i ds) in
      let c : SlabCell = get_or ds i d in
      n
      ∙ (λ j. added (o j) (e j))
      ∙ sym (ap with_cells (take_more ds i d h) ∙ ap (fold added (with_cycles (cycle_rows g))) (map_push (face_of (face_labels g)) (take i ds) c) ∙ fold_push added (with_cycles (cycle_rows g)) faces (face_of (face_labels g) c))

  pub all_are : with_cells (cells g) ≡ (subdivision g).faces
  unfolding distinct
  all_are =
      ap (λ os. fold added (fold added (first_faces g) os) (map (face_of (face_labels g)) (cells g))) (outer_are g)
      ∙ sym (fold-append added (first_faces g) (outer_faces g) (map (face_of (face_labels g)) (cells g)))
      ∙ folded [] (all_faces g)
      ∙ all_kept (is_new []) (distinct same_cell (all_faces g)) (λ f. refl)
      ∙ sym (faces_are g)

  pub cells_done : (ds : List SlabCell) (i : ℕ) (now : List SlabCell) → length ds ≤ i → now ≡ with_cells (take i ds) → ds ≡ cells g → now ≡ (subdivision g).faces
  cells_done ds i now h n e = n ∙ ap with_cells (take_all i ds h ∙ e) ∙ all_are
