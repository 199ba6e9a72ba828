-- Pieces in their caller's words, before and after each change.
use Rattle.std.proofs.Common.{◌≡◌, ◌≢◌, inl, inr, ℕ, ◌+◌, ◌-◌, ◌≤◌, ◌==◌, Bool, List, [], ◌∷◌, ◌++◌, length, min, cond, count_by, slice_index_or, Option, Some, None, is_some, IsSome, option_map, refl, sym, ap, subst, ◌∙◌, arith, Contains}
use Rattle.std.proofs.Math.ListN.{length-map}
use Rattle.std.specs.List.{IsDistinct}
use Rattle.indexmap.specs.IndexMap.{IndexMap, spare}
use Rattle.plane_graphs.specs.Ascending.{Member}
use Rattle.plane_graphs.proofs.Ascending.{to_member, from_member}
use Rattle.plane_graphs.proofs.Lists.{of_map}
use Rattle.std.proofs.lemmas.Bool.{cases_eq}
use Rattle.slab.specs.Slab.{Slab, get, slab_len, with_value, ContainsKey}
use Rattle.slab.proofs.SlabLemmas.{Updates-with_value}
use Rattle.slab_laws.specs.FaceLists.{first_of}
use Rattle.slab_laws.specs.Tables.{row_at, names}
use Rattle.slab_laws.specs.declared.present.Piece.{Piece}
use Rattle.slab_laws.specs.declared.names.CurveId.{CurveId}
use Rattle.chain_laws.specs.Links.{Node, trail, first_or, comes_after, after_at, without, IsListed, AreListed}
use Rattle.chain_laws.proofs.Distinct.{nowhere, IsOnce}
use Rattle.std.proofs.lemmas.List.{map-append}
use Rattle.curve_pieces.proofs.Split.{comes_split, not_before}
use Rattle.chain_laws.proofs.Listed.{list_same, listed_nodes}
use Rattle.chain_laws.proofs.Rows.{updated}
use Rattle.linked_chains.specs.Chains.{put_at, put_after}
use Rattle.curve_pieces.specs.declared.row.Row.{Row}
use Rattle.curve_pieces.specs.declared.row.Ends.{Ends}
use Rattle.curve_pieces.specs.PieceRows.{Rowed, HasPiece}
use Rattle.curve_pieces.specs.PiecesInMemory.{order_node, curve_node, order_nodes, curve_nodes, piece_in, order_from, rows_of, rows_from, pieces_seen, IsOrder, IsRest, AreSoundPieces}
use Rattle.curve_pieces.specs.Writes.{row_with}
use Rattle.integers.proofs.Tests.{other_number, same_number}
use Rattle.curve_pieces.proofs.Ends.{last_in, put_end}
use Rattle.curve_pieces.proofs.Named.{are_rows, row_gone, row_last, row_put, row_set}
use Rattle.curve_pieces.proofs.Ordered.{once, there, is_in, in_slab, not_in, names_seen, first_seen, next_seen, counted, order_is, order_made}

module _ {S : Type 0} {indexed : Bool} (s : Slab Row) (ends : Ends) (heads : IndexMap ℕ (Option ℕ) S) (r : Rowed) (is : pieces_seen s ends heads indexed ≡ r) (sound : AreSoundPieces s ends heads) where
  pub rows_seen : rows_from s ends.first ≡ r.rows
  rows_seen = ap (λ z. z.rows) is

  pub names_once : IsDistinct ◌==◌ (names r.rows)
  names_once = subst (λ ns. IsDistinct ◌==◌ ns) (sym (names_seen s ends sound.order) ∙ ap names rows_seen) sound.order.listed.once

  pub is_counted : length r.rows ≡ slab_len s
  is_counted = sym (ap length rows_seen) ∙ counted s ends sound.order

  pub has_row : (n : ℕ) → HasPiece r n → ContainsKey s n
  has_row n h = in_slab s ends sound.order n (subst (λ ns. Contains ns n) (names_seen s ends sound.order) (from_member (names (rows_from s ends.first)) n (subst (λ rs. Member n (names rs)) (sym rows_seen) h)))

  pub row_here : (n : ℕ) (k : Piece) → Member (n, k) r.rows → piece_in s n ≡ Some k
  row_here n k m = are_rows (piece_in s) (order_from s ends.first) (n, k) (subst (Member (n, k)) (sym rows_seen) m)

  pub here_row : (n : ℕ) (x : Row) → get s n ≡ Some x → Member (n, x.piece) r.rows
  here_row n x e =
      let c = is_in s ends sound.order n (ap is_some e) in
      let m : Member n (names (rows_from s ends.first)) = subst (λ ns. Member n ns) (sym (names_seen s ends sound.order)) (to_member (order_from s ends.first) n c) in
      let f = of_map (λ (z : ℕ × Piece). z.0) n (rows_from s ends.first) m in
      let g : Some f.0.1 ≡ Some x.piece = sym (are_rows (piece_in s) (order_from s ends.first) f.0 f.1) ∙ ap (piece_in s) (sym f.2) ∙ ap (option_map (λ (z : Row). z.piece)) e in
      subst (Member (n, x.piece)) rows_seen (subst (λ (z : ℕ × Piece). Member z (rows_from s ends.first)) (by f.0 f.2 (let w : f.0.1 ≡ x.piece = cc in w)) f.1)
    where
      by : (z : ℕ × Piece) → n ≡ z.0 → z.1 ≡ x.piece → z ≡ (n, x.piece)
      by z p q = ap (λ a. (a, z.1)) (sym p) ∙ ap (λ b. (n, b)) q

  pub last_there : (n : ℕ) → ends.last ≡ Some n → ContainsKey s n
  last_there n e = in_slab s ends sound.order n (last_in None (order_from s ends.first) n (sym sound.order.last ∙ e) (λ (z : None ≡ Some n). absurd (cc)))

  pub first_is : ends.first ≡ first_of (names r.rows)
  first_is = first_seen s ends sound.order ∙ ap (λ rs. first_of (names rs)) rows_seen

  pub next_is : (n : ℕ) (x : Row) → get s n ≡ Some x → (before after : List (ℕ × Piece)) (k : Piece) → r.rows ≡ before ++ (n, k) ∷ after → x.order.after ≡ first_of (names after)
  next_is n x e before after k q =
      let parted : order_from s ends.first ≡ names before ++ n ∷ names after = sym (names_seen s ends sound.order) ∙ ap names (rows_seen ∙ q) ∙ map-append (λ (z : ℕ × Piece). z.0) before ((n, k) ∷ after) in
      next_seen s ends sound.order n x e
      ∙ ap (λ ns. comes_after ns n) parted
      ∙ comes_split n (names before) (names after) (not_before n (names before) (names after) (subst IsOnce parted (once s ends sound.order)))

  -- the curve of a row has a head
  pub own_head : (n : ℕ) (x : Row) → get s n ≡ Some x → IsSome (row_at heads.entries x.piece.curve.0)
  own_head n x e = sound.curves.keys n x.piece.curve.0 (ap (λ o. option_map (λ (z : Node). z.key) (option_map curve_node o)) e)

  pub same_curve : (n : ℕ) (curve : CurveId) → ((k : Piece) → Member (n, k) r.rows → k.curve ≡ curve) → (x : Row) → get s n ≡ Some x → x.piece.curve ≡ curve
  same_curve n curve h x e = h x.piece (here_row n x e)

  pub curve_headed : (n : ℕ) (curve : CurveId) → HasPiece r n → ((k : Piece) → Member (n, k) r.rows → k.curve ≡ curve) → IsSome (row_at heads.entries curve.0)
  curve_headed n curve p h = by (get s n) refl (has_row n p)
    where
      by : (o : Option Row) → get s n ≡ o → IsSome o → IsSome (row_at heads.entries curve.0)
      by None e i = absurd (cc)
      by (Some x) e i = subst (λ (c : CurveId). IsSome (row_at heads.entries c.0)) (same_curve n curve h x e) (own_head n x e)

  pub has_room : length r.rows + 1 ≤ r.capacity → slab_len s + 1 ≤ s.capacity
  has_room h = let a = is_counted in let b : s.capacity ≡ r.capacity = ap (λ z. z.capacity) is in omega (arith, a, b, h)

  -- ---- one more
  module _ (t : Slab Row) (more : Ends) (n : ℕ) (piece : Piece) (vacant : get s n ≡ None) (has : piece_in t n ≡ Some piece) (agree : (m : ℕ) → m ≢ n → piece_in t m ≡ piece_in s m) where
    pub added_last : order_from t more.first ≡ put_at ends.last n (order_from s ends.first) → rows_from t more.first ≡ r.rows ++ (n, piece) ∷ []
    added_last e =
        ap (rows_of (piece_in t)) (e ∙ put_end n ends.last (order_from s ends.first) (once s ends sound.order) sound.order.last)
        ∙ row_last (piece_in s) (piece_in t) (order_from s ends.first) (once s ends sound.order) (there s ends sound.order) n agree (not_in s ends sound.order n vacant) piece has
        ∙ ap (λ rs. rs ++ (n, piece) ∷ []) rows_seen

    pub added_after : (place : ℕ) → order_from t more.first ≡ put_after place n (order_from s ends.first) → (before after : List (ℕ × Piece)) (k : Piece) → r.rows ≡ before ++ (place, k) ∷ after → rows_from t more.first ≡ before ++ (place, k) ∷ (n, piece) ∷ after
    added_after place e before after k q =
        ap (rows_of (piece_in t)) e
        ∙ row_put (piece_in s) (piece_in t) (order_from s ends.first) (once s ends sound.order) (there s ends sound.order) n agree (not_in s ends sound.order n vacant) piece has place before after k (rows_seen ∙ q)

  -- ---- one fewer
  pub lost : (t : Slab Row) (left : Ends) (n : ℕ) → ((m : ℕ) → m ≢ n → piece_in t m ≡ piece_in s m) → order_from t left.first ≡ without n (order_from s ends.first) → (before after : List (ℕ × Piece)) (k : Piece) → r.rows ≡ before ++ (n, k) ∷ after → rows_from t left.first ≡ before ++ after
  lost t left n agree e before after k q =
      ap (rows_of (piece_in t)) e
      ∙ row_gone (piece_in s) (piece_in t) (order_from s ends.first) (once s ends sound.order) (there s ends sound.order) n agree before after k (rows_seen ∙ q)

  -- ---- another piece
  pub exchanged : (t : Slab Row) (n : ℕ) (piece : Piece) → ((m : ℕ) → m ≢ n → piece_in t m ≡ piece_in s m) → piece_in t n ≡ Some piece → order_from t ends.first ≡ order_from s ends.first → (before after : List (ℕ × Piece)) (k : Piece) → r.rows ≡ before ++ (n, k) ∷ after → rows_from t ends.first ≡ before ++ (n, piece) ∷ after
  exchanged t n piece agree has e before after k q =
      ap (rows_of (piece_in t)) e
      ∙ row_set (piece_in s) (piece_in t) (order_from s ends.first) (once s ends sound.order) (there s ends sound.order) n agree before after k (rows_seen ∙ q) piece has

-- ---- another piece in the row x of the name n
module _ (s : Slab Row) (n : ℕ) (x : Row) (was : get s n ≡ Some x) (piece : Piece) (same : x.piece.curve ≡ piece.curve) where
  abbrev pub set : Slab Row
  set = with_value s n (row_with piece x)

  now : (m : ℕ) → get set m ≡ cond (m == n) (Some (row_with piece x)) (get s m)
  now = updated s set n (Some (row_with piece x)) (Updates-with_value s n (row_with piece x) (ap is_some was))

  node_stays : (g : Row → Node) → g (row_with piece x) ≡ g x → (m : ℕ) → option_map g (get set m) ≡ option_map g (get s m)
  node_stays g e m = ap (option_map g) (now m) ∙ elim (cases_eq m n) [
    | inl q ↦ rw (q, same_number n) (ap Some e ∙ sym (ap (option_map g) was))
    | inr ne ↦ rw (other_number m n ne) refl
  ]

  order_stays : (m : ℕ) → order_nodes set m ≡ order_nodes s m
  order_stays = node_stays order_node refl

  curve_stays : (m : ℕ) → curve_nodes set m ≡ curve_nodes s m
  curve_stays = node_stays curve_node (ap (λ (c : CurveId). record { key = c.0; before = x.curve.before; after = x.curve.after }) (sym same))

  pub piece_set : piece_in set n ≡ Some piece
  piece_set = ap (option_map (λ (z : Row). z.piece)) (now n) ∙ ap (λ b. option_map (λ (z : Row). z.piece) (cond b (Some (row_with piece x)) (get s n))) (same_number n)

  pub pieces_unset : (m : ℕ) → m ≢ n → piece_in set m ≡ piece_in s m
  pieces_unset m h = ap (option_map (λ (z : Row). z.piece)) (now m) ∙ ap (λ b. option_map (λ (z : Row). z.piece) (cond b (Some (row_with piece x)) (get s m))) (other_number m n h)

  module _ (ends : Ends) (o : IsOrder s ends) where
    listed_still : IsListed (order_nodes set) ends.first 0 (order_from s ends.first)
    listed_still = list_same (order_nodes s) (order_nodes set) ends.first 0 (order_from s ends.first) (λ m. ap (λ z. first_or (option_map (λ (y : Node). y.after) z)) (order_stays m)) (λ m. ap (λ z. first_or (option_map (λ (y : Node). y.before) z)) (order_stays m)) (λ m. ap (option_map (λ (y : Node). y.key)) (order_stays m)) o.listed

    pub order_set : order_from set ends.first ≡ order_from s ends.first
    order_set = order_is set ends.first (order_from s ends.first) listed_still

    pub kept_set : {S : Type 0} (heads : IndexMap ℕ (Option ℕ) S) → AreListed (row_at heads.entries) (curve_nodes s) → AreSoundPieces set ends heads
    kept_set heads l = record {
      order = order_made set ends (order_from s ends.first) listed_still o.last;
      curves = listed_nodes (row_at heads.entries) (curve_nodes s) (curve_nodes set) (λ m. ap (λ z. first_or (option_map (λ (y : Node). y.after) z)) (curve_stays m)) (λ m. ap (λ z. first_or (option_map (λ (y : Node). y.before) z)) (curve_stays m)) (λ m. ap (option_map (λ (y : Node). y.key)) (curve_stays m)) l;
    }

-- ---- slabs with the same slots, and with none
abbrev at_slot : (Row → Node) → List (Option Row) → ℕ → Option Node
at_slot g os n = option_map g (slice_index_or os n None)

pub order_slots : (s t : Slab Row) (first : Option ℕ) → t.slots ≡ s.slots → order_from t first ≡ order_from s first
unfolding order_from
order_slots s t first e = ap (λ os. trail (after_at (at_slot order_node os)) (count_by is_some os) first) e

pub rows_slots : (s t : Slab Row) (first : Option ℕ) → t.slots ≡ s.slots → rows_from t first ≡ rows_from s first
rows_slots s t first e = ap (λ os. rows_of (λ n. option_map (λ (x : Row). x.piece) (slice_index_or os n None)) (order_from t first)) e ∙ ap (rows_of (piece_in s)) (order_slots s t first e)

pub kept_slots : {S : Type 0} (s t : Slab Row) (ends : Ends) (heads heads' : IndexMap ℕ (Option ℕ) S) → t.slots ≡ s.slots → heads'.entries ≡ heads.entries → AreSoundPieces s ends heads → AreSoundPieces t ends heads'
kept_slots s t ends heads heads' e h k = record {
  order = order_made t ends (order_from s ends.first) (subst (λ os. IsListed (at_slot order_node os) ends.first 0 (order_from s ends.first)) (sym e) k.order.listed) k.order.last;
  curves = subst (λ es. AreListed (row_at es) (curve_nodes t)) (sym h) (subst (λ os. AreListed (row_at heads.entries) (at_slot curve_node os)) (sym e) k.curves);
}

no_order : IsListed (at_slot order_node []) None 0 []
unfolding IsDistinct
no_order = record { linked = refl; members = λ n. (λ c. absurd (nowhere n c), λ (e : None ≡ Some 0). absurd (cc)); once = tt }

no_curves : AreListed (row_at []) (at_slot curve_node [])
unfolding row_at IsDistinct
no_curves = record {
  lists = λ k. ([], record { linked = refl; members = λ n. (λ c. absurd (nowhere n c), λ (e : None ≡ Some k). absurd (cc)); once = tt });
  keys = λ n k (e : None ≡ Some k). absurd (cc);
}

none_listed : (s : Slab Row) → s.slots ≡ [] → IsListed (order_nodes s) None 0 []
none_listed s e = subst (λ os. IsListed (at_slot order_node os) None 0 []) (sym e) no_order

pub kept_nothing : {S : Type 0} (s : Slab Row) (heads : IndexMap ℕ (Option ℕ) S) → s.slots ≡ [] → heads.entries ≡ [] → AreSoundPieces s (record { first = None; last = None }) heads
kept_nothing s heads e h = record {
  order = order_made s (record { first = None; last = None }) [] (none_listed s e) refl;
  curves = subst (λ es. AreListed (row_at es) (curve_nodes s)) (sym h) (subst (λ os. AreListed (row_at []) (at_slot curve_node os)) (sym e) no_curves);
}

pub nothing_seen : (s : Slab Row) → s.slots ≡ [] → rows_from s None ≡ []
nothing_seen s e = ap (rows_of (piece_in s)) (order_is s None [] (none_listed s e))

-- a number of rows and the room beside them are within all that fit
pub within : {S : Type 0} {indexed : Bool} (s : Slab Row) (ends : Ends) (heads : IndexMap ℕ (Option ℕ) S) (r : Rowed) (is : pieces_seen s ends heads indexed ≡ r) → AreSoundPieces s ends heads → (capacity : ℕ) → capacity ≡ s.capacity → slab_len s ≤ capacity → length r.rows + r.spare ≤ r.capacity
within s ends heads r is sound capacity e h =
    let a = is_counted s ends heads r is sound in
    let b : s.capacity ≡ r.capacity = ap (λ z. z.capacity) is in
    let c : min (spare heads) (s.capacity - slab_len s) ≡ r.spare = ap (λ z. z.spare) is in
    omega (arith, a, b, c, e, h)

-- all rows, from the first
pub rest_of_all : (s : Slab Row) (ends : Ends) (o : IsOrder s ends) → IsRest s ends.first
rest_of_all s ends o = record { names = order_from s ends.first; before = None; linked = o.listed.linked; there = in_slab s ends o; few = subst (λ m. m ≤ slab_len s) (ap length (names_seen s ends o)) (subst (λ m. m ≤ slab_len s) (sym (length-map (rows_from s ends.first) _)) (let a = counted s ends o in omega arith)) }
