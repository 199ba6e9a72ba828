-- What the loops over points and edges gather, and that it is the model's lists.
use Rattle.std.proofs.Common.{◌≡◌, ℕ, suc, ◌+◌, ◌≤◌, Bool, arith, refl, sym, ap, ◌∙◌, List, [], ◌∷◌, ◌++◌, map, length, take}
use Rattle.std.specs.Prelude.{◌&&◌, ◌||◌, not, filter}
use Rattle.std.specs.List.{list_any, count_by, range_with_len}
use Rattle.std.proofs.lemmas.List.{append_assoc, append-nil}
use Rattle.std.proofs.lemmas.List.Concat.{flat_map_single}
use Rattle.std.proofs.lemmas.List.Folds.{flat_map-map}
use Rattle.std.proofs.lemmas.List.FromFn.{map-range_with_len_more}
use Rattle.exact_plane.specs.Point.{Point}
use Rattle.exact_plane.specs.Span.{Span}
use Rattle.plane_graphs.proofs.Lists.{filter_of_map}
use Rattle.slab_laws.specs.SpansDrawn.{edge_of, drawn}
use Rattle.slab_laws.specs.Skeleton.{Skeleton, on_wall, foot}
use Rattle.slab_laws.specs.Meets.{covers_above}
use Rattle.slab_laws.specs.Slabs.{slab_left, slab_right, width}
use Rattle.slab_laws.specs.declared.classes.Link.{Link}
use Rattle.slab_laws.specs.Faces.{is_lowest, walls, passes, is_open, link_at, lowest_link, corner_links, foot_links, wall_links, links, slab_cells, cells}
use Rattle.slab_laws.specs.declared.slab_cell.SlabCell.{SlabCell}
use Rattle.plain_slabs.specs.declared.reaches.Reach.{Reach}
use Rattle.plain_slabs.specs.PlaceTables.{table, is_across}
use Rattle.plain_slabs.proofs.Loops.{gathered, done}
use Rattle.plain_slabs.proofs.Reached.{width_is}

list_any-map : {X Y : Type 0} (p : Y → Bool) (f : X → Y) (xs : List X) → list_any p (map f xs) ≡ list_any (λ x. p (f x)) xs
list_any-map p f [] = refl
list_any-map p f (x ∷ xs) = ap (λ b. p (f x) || b) (list_any-map p f xs)

-- ---- the corners of a wall
abbrev pub is_corner : List Point → List Span → Point → Point → Bool
is_corner vs ss v u = on_wall u v && is_open (drawn vs ss) u

pub corner_is : (vs : List Point) (ss : List Span) (u v : Point) (b : Bool) → b ≡ (on_wall u v && not (list_any (λ s. covers_above (edge_of s) u) ss)) → is_corner vs ss v u ≡ b
unfolding is_open
corner_is vs ss u v b e = ap (λ a. on_wall u v && not a) (list_any-map (λ f. covers_above f u) edge_of ss) ∙ sym e

abbrev pub corner_of : List Point → List Span → Point → List (Link SlabCell)
corner_of vs ss u = link_at (drawn vs ss) u ∷ []

pub corners_done : (vs : List Point) (ss : List Span) (v : Point) (i : ℕ) (base now : List (Link SlabCell)) → length vs ≤ i → now ≡ base ++ gathered (is_corner vs ss v) (corner_of vs ss) (take i vs) → now ≡ base ++ corner_links (drawn vs ss) v
unfolding corner_links
corners_done vs ss v i base now h e =
    done (is_corner vs ss v) (corner_of vs ss) vs i base now h e ∙ ap (λ zs. base ++ zs) (flat_map_single (link_at (drawn vs ss)) (filter (is_corner vs ss v) vs))

-- ---- the edges that pass through a wall
abbrev pub is_passing : Point → Span → Bool
is_passing v s = passes v (edge_of s)

abbrev pub foot_of : List Point → List Span → Point → Span → List (Link SlabCell)
foot_of vs ss v s = link_at (drawn vs ss) (foot (edge_of s) v) ∷ []

pub feet_done : (vs : List Point) (ss : List Span) (v : Point) (i : ℕ) (base now : List (Link SlabCell)) → length ss ≤ i → now ≡ base ++ gathered (is_passing v) (foot_of vs ss v) (take i ss) → now ≡ base ++ foot_links (drawn vs ss) v
unfolding foot_links
feet_done vs ss v i base now h e =
    let one : Span → Link SlabCell = λ s. link_at (drawn vs ss) (foot (edge_of s) v) in
    done (is_passing v) (foot_of vs ss v) ss i base now h e
    ∙ ap (λ zs. base ++ zs) (flat_map_single one (filter (is_passing v) ss) ∙ sym (map-map (λ f. link_at (drawn vs ss) (foot f v)) edge_of (filter (is_passing v) ss)) ∙ ap (map (λ f. link_at (drawn vs ss) (foot f v))) (sym (filter_of_map edge_of (passes v) ss)))
  where
    map-map : {X Y Z : Type 0} (g : Y → Z) (f : X → Y) (xs : List X) → map g (map f xs) ≡ map (λ x. g (f x)) xs
    map-map g f [] = refl
    map-map g f (x ∷ xs) = ap (λ ys. g (f x) ∷ ys) (map-map g f xs)

-- ---- the walls
pub wall_added : (g : Skeleton) (v : Point) (i j : ℕ) (old one two three : List (Link SlabCell)) → i ≡ slab_left g v → j ≡ slab_right g v → one ≡ old ++ (record { one = record { slab = i; place = 0 }; other = record { slab = j; place = 0 } }) ∷ [] → two ≡ one ++ corner_links g v → three ≡ two ++ foot_links g v → three ≡ old ++ wall_links g v
unfolding wall_links
wall_added g v i j old one two three a b p q r =
    let l : Link SlabCell = record { one = record { slab = i; place = 0 }; other = record { slab = j; place = 0 } } in
    let e : l ≡ lowest_link g v = λ k. record { one = record { slab = a k; place = 0 }; other = record { slab = b k; place = 0 } } in
    r ∙ ap (λ zs. zs ++ foot_links g v) (q ∙ ap (λ zs. zs ++ corner_links g v) p) ∙ append_assoc (old ++ l ∷ []) (corner_links g v) (foot_links g v) ∙ append_assoc old (l ∷ []) (corner_links g v ++ foot_links g v)
    ∙ ap (λ x. old ++ x ∷ (corner_links g v ++ foot_links g v)) e

pub walls_done : (vs : List Point) (ss : List Span) (i : ℕ) (now : List (Link SlabCell)) → length vs ≤ i → now ≡ gathered (is_lowest vs) (wall_links (drawn vs ss)) (take i vs) → now ≡ links (drawn vs ss)
unfolding links walls
walls_done vs ss i now h e = done (is_lowest vs) (wall_links (drawn vs ss)) vs i [] now h e

-- ---- the cells
abbrev pub cells_of : ℕ → ℕ → List SlabCell
cells_of i n = map (λ j. record { slab = i; place = j }) (range_with_len 0 n)

pub cell_added : (i j : ℕ) (base now new : List SlabCell) → now ≡ base ++ cells_of i j → new ≡ now ++ (record { slab = i; place = j }) ∷ [] → new ≡ base ++ cells_of i (j + 1)
cell_added i j base now new e f =
    let x : SlabCell = record { slab = i; place = j } in
    f ∙ ap (λ zs. zs ++ x ∷ []) e ∙ append_assoc base (cells_of i j) (x ∷ []) ∙ ap (λ zs. base ++ zs) (sym (map-range_with_len_more (λ j. record { slab = i; place = j }) 0 j j (omega arith)))

pub cells_of_slab : (vs : List Point) (ss : List Span) (rs : List Reach) (i j n : ℕ) → rs ≡ table vs ss → i ≡ j → n ≡ count_by (is_across i) rs + 1 → cells_of i n ≡ slab_cells (drawn vs ss) j
unfolding slab_cells
cells_of_slab vs ss rs i j n e f h =
    let s : count_by (is_across i) rs + 1 ≡ suc (count_by (is_across i) rs) = omega arith in
    let w : n ≡ suc (width (drawn vs ss) i) = h ∙ s ∙ ap suc (width_is vs ss rs i e) in
    ap (cells_of i) w ∙ ap (λ i. cells_of i (suc (width (drawn vs ss) i))) f

pub slab_first : (vs : List Point) (ss : List Span) (rs : List Reach) (old new : List SlabCell) → rs ≡ table vs ss → old ≡ [] → new ≡ old ++ cells_of 0 (count_by (is_across 0) rs + 1) → new ≡ slab_cells (drawn vs ss) 0 ++ []
slab_first vs ss rs old new e f h = h ∙ ap (λ zs. zs ++ cells_of 0 (count_by (is_across 0) rs + 1)) f ∙ cells_of_slab vs ss rs 0 0 _ e refl refl ∙ sym (append-nil (slab_cells (drawn vs ss) 0))

pub slab_added : (vs : List Point) (ss : List Span) (rs : List Reach) (v : Point) (i n : ℕ) (old new : List SlabCell) → rs ≡ table vs ss → i ≡ slab_right (drawn vs ss) v → n ≡ count_by (is_across i) rs + 1 → new ≡ old ++ cells_of i n → new ≡ old ++ slab_cells (drawn vs ss) (slab_right (drawn vs ss) v)
slab_added vs ss rs v i n old new e f h k = k ∙ ap (λ zs. old ++ zs) (cells_of_slab vs ss rs i _ n e f h)

abbrev pub cells_after : List Point → List Span → Point → List SlabCell
cells_after vs ss v = slab_cells (drawn vs ss) (slab_right (drawn vs ss) v)

pub cells_done : (vs : List Point) (ss : List Span) (i : ℕ) (now : List SlabCell) → length vs ≤ i → now ≡ slab_cells (drawn vs ss) 0 ++ gathered (is_lowest vs) (cells_after vs ss) (take i vs) → now ≡ cells (drawn vs ss)
unfolding cells walls
cells_done vs ss i now h e =
    let g : Skeleton = drawn vs ss in
    done (is_lowest vs) (cells_after vs ss) vs i (slab_cells g 0) now h e
    ∙ ap (λ zs. slab_cells g 0 ++ zs) (sym (flat_map-map (slab_cells g) (slab_right g) (filter (is_lowest vs) vs)))
