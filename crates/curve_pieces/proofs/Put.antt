-- Both lists after a row is put in.
use Rattle.std.proofs.Common.{◌≡◌, ◌≢◌, ℕ, zero, suc, ◌==◌, Bool, true, false, cond, List, Option, Some, None, IsSome, option_map, refl, sym, ap, subst, ◌∙◌, arith, Contains}
use Rattle.std.specs.Prelude.{is_none}
use Rattle.slab.specs.Slab.{Slab, get, Updates, ContainsKey}
use Rattle.slab_laws.specs.declared.present.Piece.{Piece}
use Rattle.chain_laws.specs.Links.{Node, first_or, after_at, IsListed, AreListed, followed_by, led_by}
use Rattle.chain_laws.specs.Rows.{IsChanged}
use Rattle.chain_laws.proofs.Changes.{AreChanged}
use Rattle.chain_laws.proofs.Pushed.{first_there, list_pushed, listed_pushed}
use Rattle.chain_laws.proofs.Rows.{updated, cond_map, unwritten_row}
use Rattle.linked_chains.specs.Chains.{put_at, put_after}
use Rattle.linked_chains.proofs.Inserted.{follower_there, place_there, list_inserted}
use Rattle.curve_pieces.specs.declared.row.Row.{Row}
use Rattle.curve_pieces.specs.declared.row.Ends.{Ends}
use Rattle.curve_pieces.specs.PiecesInMemory.{order_node, curve_node, order_nodes, curve_nodes, piece_in, order_from, after_place, last_of, with_head, IsOrder}
use Rattle.curve_pieces.specs.Writes.{row_followed, row_led, row_prior}
use Rattle.curve_pieces.proofs.Ends.{last_put, last_pushed}
use Rattle.curve_pieces.proofs.Ordered.{row_there, curve_there, order_head, all_listed, order_is, order_made, is_in}
use Rattle.curve_pieces.proofs.Taken.{node_changed}
use Rattle.integers.proofs.Tests.{other_number, same_number}

some_row : (o : Option Row) → IsSome o → (r : Row) × (o ≡ Some r)
some_row None h = absurd (cc)
some_row (Some r) h = (r, refl)

-- ---- the order, where n is put after a place
module _ (s : Slab Row) (first : Option ℕ) (xs : List ℕ) (l : IsListed (order_nodes s) first 0 xs) (n : ℕ) (vacant : order_nodes s n ≡ None) where
  abbrev node_at : Option ℕ → Option ℕ → Node
  node_at place a = record { key = 0; before = place; after = a }

  abbrev Added : (ℕ → Option Node) → Option ℕ → Option ℕ → Type 0
  Added t place a = (y : ℕ) → t y ≡ cond (y == n) (Some (node_at place a)) (order_nodes s y)

  abbrev Has : Option ℕ → Type 0
  Has place = (m : ℕ) → place ≡ Some m → ContainsKey s m

  row_after : (p : ℕ) (r : Row) → get s p ≡ Some r → after_at (order_nodes s) p ≡ r.order.after
  row_after p r e = ap (λ o. first_or (option_map (λ (z : Node). z.after) (option_map order_node o))) e

  -- what comes after the place is there
  next_there : (t : ℕ → Option Node) (place a : Option ℕ) → Has place → a ≡ after_place s first place → Added t place a → (m : ℕ) → a ≡ Some m → IsSome (t m)
  next_there t None a h e ad m q = first_there (order_head first) (order_nodes s) t n 0 (all_listed s first xs l) vacant (subst (Added t None) e ad) m (sym e ∙ q)
  next_there t (Some p) a h e ad m q =
      let r = some_row (get s p) (h p refl) in
      let b : a ≡ r.0.order.after = e ∙ row_after p r.0 r.1 in
      follower_there (order_head first) (order_nodes s) p (order_node r.0) (all_listed s first xs l) (ap (option_map order_node) r.1) n vacant t (subst (Added t (Some p)) b ad) m (sym b ∙ q)

  -- and so is the place
  place_still : (t u : ℕ → Option Node) (place a : Option ℕ) → Has place → a ≡ after_place s first place → Added t place a → AreChanged (led_by (Some n)) a t u → (m : ℕ) → place ≡ Some m → IsSome (u m)
  place_still t u None a h e ad led m q = absurd (cc)
  place_still t u (Some p) a h e ad led m q =
      let r = some_row (get s p) (h p refl) in
      let b : a ≡ r.0.order.after = e ∙ row_after p r.0 r.1 in
      place_there (order_head first) (order_nodes s) p (order_node r.0) (all_listed s first xs l) (ap (option_map order_node) r.1) n vacant t (subst (Added t (Some p)) b ad) u (subst (λ z. AreChanged (led_by (Some n)) z t u) b led) m q

  put_listed : (t u v : ℕ → Option Node) (place a first' : Option ℕ) → Has place → a ≡ after_place s first place → Added t place a → AreChanged (led_by (Some n)) a t u → AreChanged (followed_by (Some n)) place u v → first' ≡ cond (is_none place) (Some n) first → IsListed v first' 0 (put_at place n xs)
  put_listed t u v None a first' h e ad led followed f = list_pushed (order_head first) (order_nodes s) t n 0 (all_listed s first xs l) vacant (subst (Added t None) e ad) v (λ m. followed m ∙ subst (λ z. AreChanged (led_by (Some n)) z t u) e led m) (order_head first') headed xs l
    where
      headed : (k : ℕ) → order_head first' k ≡ cond (k == 0) (Some (Some n)) (order_head first k)
      headed zero = ap Some f
      headed (suc k) = sym (ap (λ b. cond b (Some (Some n)) None) (other_number (suc k) 0 (λ q. absurd (omega (arith, q)))))
  put_listed t u v (Some p) a first' h e ad led followed f =
      let r = some_row (get s p) (h p refl) in
      let b : a ≡ r.0.order.after = e ∙ row_after p r.0 r.1 in
      subst (λ z. IsListed v z 0 (put_after p n xs)) (sym f)
      (list_inserted (order_head first) (order_nodes s) p (order_node r.0) (all_listed s first xs l) (ap (option_map order_node) r.1) n vacant t (subst (Added t (Some p)) b ad) u (subst (λ z. AreChanged (led_by (Some n)) z t u) b led) v followed 0 xs l)

  put_last : (place a last last' : Option ℕ) → Has place → ((m : ℕ) → ContainsKey s m → Contains xs m) → a ≡ after_place s first place → last ≡ last_of None xs → last' ≡ cond (is_none a) (Some n) last → last' ≡ last_of None (put_at place n xs)
  put_last None a last last' h c e was is = is ∙ ap (λ z. cond (is_none z) (Some n) last) e ∙ ap (cond (is_none first) (Some n)) was ∙ sym (last_pushed n first (order_nodes s) xs l.linked)
  put_last (Some p) a last last' h c e was is = is ∙ ap (λ z. cond (is_none z) (Some n) last) e ∙ ap (cond (is_none (after_at (order_nodes s) p)) (Some n)) was ∙ sym (last_put (order_nodes s) p n None first xs l.linked (c p (h p refl)))

-- ---- the row of a piece, with the name n
module _ (s : Slab Row) (ends : Ends) (o : IsOrder s ends) (place : Option ℕ) (has : (m : ℕ) → place ≡ Some m → ContainsKey s m) (piece : Piece) (a head : Option ℕ) (after : a ≡ after_place s ends.first place) (n : ℕ) (vacant : get s n ≡ None) (t : Slab Row)
    (put : Updates s t n (Some (record { piece = piece; order = record { before = place; after = a }; curve = record { before = None; after = head } }))) where
  abbrev row : Row
  row = record { piece = piece; order = record { before = place; after = a }; curve = record { before = None; after = head } }

  added : (g : Row → Node) (m : ℕ) → option_map g (get t m) ≡ cond (m == n) (Some (g row)) (option_map g (get s m))
  added g m = ap (option_map g) (updated s t n (Some row) put m) ∙ cond_map g (m == n) (Some row) (get s m)

  no_order : order_nodes s n ≡ None
  no_order = ap (option_map order_node) vacant

  no_curve : curve_nodes s n ≡ None
  no_curve = ap (option_map curve_node) vacant

  pub next_still : (m : ℕ) → a ≡ Some m → IsSome (get t m)
  next_still m e = row_there t m (next_there s ends.first (order_from s ends.first) o.listed n no_order (order_nodes t) place a has after (added order_node) m e)

  module _ (u : Slab Row) (led : IsChanged (row_led (Some n)) a t u) where
    led_order : AreChanged (led_by (Some n)) a (order_nodes t) (order_nodes u)
    led_order = node_changed order_node (row_led (Some n)) (led_by (Some n)) (λ r. refl) a t u led

    pub place_kept : (m : ℕ) → place ≡ Some m → IsSome (get u m)
    place_kept m e = row_there u m (place_still s ends.first (order_from s ends.first) o.listed n no_order (order_nodes t) (order_nodes u) place a has after (added order_node) led_order m e)

    module _ (v : Slab Row) (followed : IsChanged (row_followed (Some n)) place u v) where
      curve_added : (m : ℕ) → curve_nodes v m ≡ cond (m == n) (Some (curve_node row)) (curve_nodes s m)
      curve_added m = unwritten_row curve_node (row_followed (Some n)) (λ r. refl) place u v followed m ∙ unwritten_row curve_node (row_led (Some n)) (λ r. refl) a t u led m ∙ added curve_node m

      module _ (heads : ℕ → Option (Option ℕ)) (by_curve : AreListed (with_head piece.curve.0 head heads) (curve_nodes s)) where
        abbrev before : ℕ → Option (Option ℕ)
        before = with_head piece.curve.0 head heads

        head_is : first_or (before piece.curve.0) ≡ head
        head_is = ap (λ b. first_or (cond b (Some head) (heads piece.curve.0))) (same_number piece.curve.0)

        curve_put : (m : ℕ) → curve_nodes v m ≡ cond (m == n) (Some (record { key = piece.curve.0; before = None; after = first_or (before piece.curve.0) })) (curve_nodes s m)
        curve_put = subst (λ z. (m : ℕ) → curve_nodes v m ≡ cond (m == n) (Some (record { key = piece.curve.0; before = None; after = z })) (curve_nodes s m)) (sym head_is) curve_added

        pub head_still : (m : ℕ) → head ≡ Some m → IsSome (get v m)
        head_still m e = curve_there v m (first_there before (curve_nodes s) (curve_nodes v) n piece.curve.0 by_curve no_curve curve_put m (head_is ∙ e))

        module _ (w : Slab Row) (prior : IsChanged (row_prior (Some n)) head v w) where
          prior_curve : AreChanged (led_by (Some n)) (first_or (before piece.curve.0)) (curve_nodes v) (curve_nodes w)
          prior_curve = subst (λ z. AreChanged (led_by (Some n)) z (curve_nodes v) (curve_nodes w)) (sym head_is) (node_changed curve_node (row_prior (Some n)) (led_by (Some n)) (λ r. refl) head v w prior)

          pub curves_with : AreListed (with_head piece.curve.0 (Some n) heads) (curve_nodes w)
          curves_with = listed_pushed before (curve_nodes s) (curve_nodes v) n piece.curve.0 by_curve no_curve curve_put (curve_nodes w) prior_curve (with_head piece.curve.0 (Some n) heads) (λ k. by k (k == piece.curve.0))
            where
              by : (k : ℕ) (b : Bool) → cond b (Some (Some n)) (heads k) ≡ cond b (Some (Some n)) (cond b (Some head) (heads k))
              by k true = refl
              by k false = refl

      module _ (w : Slab Row) (prior : IsChanged (row_prior (Some n)) head v w) where
        followed_order : AreChanged (followed_by (Some n)) place (order_nodes u) (order_nodes w)
        followed_order m = unwritten_row order_node (row_prior (Some n)) (λ r. refl) head v w prior m ∙ node_changed order_node (row_followed (Some n)) (followed_by (Some n)) (λ r. refl) place u v followed m

        pieces_put : (m : ℕ) → piece_in w m ≡ cond (m == n) (Some piece) (piece_in s m)
        pieces_put m =
            unwritten_row (λ r. r.piece) (row_prior (Some n)) (λ r. refl) head v w prior m
            ∙ unwritten_row (λ r. r.piece) (row_followed (Some n)) (λ r. refl) place u v followed m
            ∙ unwritten_row (λ r. r.piece) (row_led (Some n)) (λ r. refl) a t u led m
            ∙ ap (option_map (λ (r : Row). r.piece)) (updated s t n (Some row) put m) ∙ cond_map (λ (r : Row). r.piece) (m == n) (Some row) (get s m)

        pub piece_here : piece_in w n ≡ Some piece
        piece_here = pieces_put n ∙ ap (λ b. cond b (Some piece) (piece_in s n)) (same_number n)

        pub pieces_kept : (m : ℕ) → m ≢ n → piece_in w m ≡ piece_in s m
        pieces_kept m h = pieces_put m ∙ ap (λ b. cond b (Some piece) (piece_in s m)) (other_number m n h)

        module _ (more : Ends) (first : more.first ≡ cond (is_none place) (Some n) ends.first) (last : more.last ≡ cond (is_none a) (Some n) ends.last) where
          with_n : IsListed (order_nodes w) more.first 0 (put_at place n (order_from s ends.first))
          with_n = put_listed s ends.first (order_from s ends.first) o.listed n no_order (order_nodes t) (order_nodes u) (order_nodes w) place a more.first has after (added order_node) led_order followed_order first

          pub order_with : order_from w more.first ≡ put_at place n (order_from s ends.first)
          order_with = order_is w more.first (put_at place n (order_from s ends.first)) with_n

          pub kept_with : IsOrder w more
          kept_with = order_made w more (put_at place n (order_from s ends.first)) with_n (put_last s ends.first (order_from s ends.first) o.listed n no_order place a ends.last more.last has (is_in s ends o) after o.last last)
