-- Both lists after a row is taken out.
use Rattle.std.proofs.Common.{◌≡◌, ◌≢◌, ℕ, zero, suc, ◌==◌, ◌&&◌, Bool, true, false, cond, List, Option, Some, None, is_some, IsSome, option_map, refl, sym, ap, ◌∙◌, arith}
use Rattle.std.specs.Prelude.{is_none}
use Rattle.slab.specs.Slab.{Slab, get, Updates}
use Rattle.chain_laws.specs.Links.{Node, first_or, is_at, after_at, before_at, IsListed, AreListed, followed_by, led_by, without}
use Rattle.chain_laws.specs.Rows.{IsChanged}
use Rattle.chain_laws.proofs.Changes.{AreChanged}
use Rattle.chain_laws.proofs.Removed.{before_there, after_there, list_removed, listed_removed}
use Rattle.chain_laws.proofs.Rows.{updated, cond_map, unwritten_row}
use Rattle.curve_pieces.specs.declared.row.Row.{Row}
use Rattle.curve_pieces.specs.declared.row.Ends.{Ends}
use Rattle.curve_pieces.specs.PiecesInMemory.{order_node, curve_node, order_nodes, curve_nodes, piece_in, order_from, IsOrder}
use Rattle.curve_pieces.specs.Writes.{row_followed, row_led, row_next, row_prior}
use Rattle.curve_pieces.proofs.Ends.{last_without}
use Rattle.curve_pieces.proofs.Ordered.{row_there, curve_there, order_head, all_listed, order_is, order_made, once, is_in}
use Rattle.integers.proofs.Tests.{other_number}

-- a changed row is a changed node
pub node_changed : (g : Row → Node) (f : Row → Row) (F : Node → Node) → ((r : Row) → g (f r) ≡ F (g r)) → (at : Option ℕ) (old new : Slab Row) → IsChanged f at old new → AreChanged F at (λ n. option_map g (get old n)) (λ n. option_map g (get new n))
node_changed g f F q at old new c n = ap (option_map g) (c.rows n) ∙ by (is_at at n) (get old n)
  where
    by : (b : Bool) (o : Option Row) → option_map g (cond b (option_map f o) o) ≡ cond b (option_map F (option_map g o)) (option_map g o)
    by false o = refl
    by true None = refl
    by true (Some x) = ap Some (q x)

-- the row x of the name n goes
module _ (s : Slab Row) (n : ℕ) (x : Row) (was : get s n ≡ Some x) (t : Slab Row) (gone : Updates s t n None) where
  order_n : order_nodes s n ≡ Some (order_node x)
  order_n = ap (option_map order_node) was

  curve_n : curve_nodes s n ≡ Some (curve_node x)
  curve_n = ap (option_map curve_node) was

  cut : (g : Row → Node) (m : ℕ) → option_map g (get t m) ≡ cond (m == n) None (option_map g (get s m))
  cut g m = ap (option_map g) (updated s t n None gone m) ∙ cond_map g (m == n) None (get s m)

  module _ (first : Option ℕ) (xs : List ℕ) (l : IsListed (order_nodes s) first 0 xs) where
    listed : AreListed (order_head first) (order_nodes s)
    listed = all_listed s first xs l

    pub before_still : (m : ℕ) → x.order.before ≡ Some m → IsSome (get t m)
    before_still m e = row_there t m (before_there (order_head first) (order_nodes s) n (order_node x) listed order_n (order_nodes t) (cut order_node) m e)

  module _ (u : Slab Row) (followed : IsChanged (row_followed x.order.after) x.order.before t u) where
    followed_order : AreChanged (followed_by x.order.after) x.order.before (order_nodes t) (order_nodes u)
    followed_order = node_changed order_node (row_followed x.order.after) (followed_by x.order.after) (λ r. refl) x.order.before t u followed

    module _ (first : Option ℕ) (xs : List ℕ) (l : IsListed (order_nodes s) first 0 xs) where
      pub after_still : (m : ℕ) → x.order.after ≡ Some m → IsSome (get u m)
      after_still m e = row_there u m (after_there (order_head first) (order_nodes s) n (order_node x) (listed first xs l) order_n (order_nodes t) (cut order_node) (order_nodes u) followed_order m e)

    module _ (v : Slab Row) (led : IsChanged (row_led x.order.before) x.order.after u v) where
      -- the lists by curve don't see it
      curve_cut : (m : ℕ) → curve_nodes v m ≡ cond (m == n) None (curve_nodes s m)
      curve_cut m = unwritten_row curve_node (row_led x.order.before) (λ r. refl) x.order.after u v led m ∙ unwritten_row curve_node (row_followed x.order.after) (λ r. refl) x.order.before t u followed m ∙ cut curve_node m

      module _ (heads : ℕ → Option (Option ℕ)) (by_curve : AreListed heads (curve_nodes s)) where
        pub prior_still : (m : ℕ) → x.curve.before ≡ Some m → IsSome (get v m)
        prior_still m e = curve_there v m (before_there heads (curve_nodes s) n (curve_node x) by_curve curve_n (curve_nodes v) curve_cut m e)

      module _ (w : Slab Row) (next : IsChanged (row_next x.curve.after) x.curve.before v w) where
        next_curve : AreChanged (followed_by x.curve.after) x.curve.before (curve_nodes v) (curve_nodes w)
        next_curve = node_changed curve_node (row_next x.curve.after) (followed_by x.curve.after) (λ r. refl) x.curve.before v w next

        module _ (heads : ℕ → Option (Option ℕ)) (by_curve : AreListed heads (curve_nodes s)) where
          pub next_still : (m : ℕ) → x.curve.after ≡ Some m → IsSome (get w m)
          next_still m e = curve_there w m (after_there heads (curve_nodes s) n (curve_node x) by_curve curve_n (curve_nodes v) curve_cut (curve_nodes w) next_curve m e)

        module _ (y : Slab Row) (prior : IsChanged (row_prior x.curve.before) x.curve.after w y) where
          prior_curve : AreChanged (led_by x.curve.before) x.curve.after (curve_nodes w) (curve_nodes y)
          prior_curve = node_changed curve_node (row_prior x.curve.before) (led_by x.curve.before) (λ r. refl) x.curve.after w y prior

          pub curves_without : (heads left : ℕ → Option (Option ℕ)) → AreListed heads (curve_nodes s) → ((k : ℕ) → left k ≡ cond ((k == x.piece.curve.0) && is_none x.curve.before) (Some x.curve.after) (heads k)) → AreListed left (curve_nodes y)
          curves_without heads left l h = listed_removed heads (curve_nodes s) n (curve_node x) l curve_n (curve_nodes v) curve_cut (curve_nodes w) next_curve (curve_nodes y) prior_curve left h

          -- nor does the order see the writes in the list of a curve
          order_same : (m : ℕ) → order_nodes y m ≡ order_nodes v m
          order_same m = unwritten_row order_node (row_prior x.curve.before) (λ r. refl) x.curve.after w y prior m ∙ unwritten_row order_node (row_next x.curve.after) (λ r. refl) x.curve.before v w next m

          led_order : AreChanged (led_by x.order.before) x.order.after (order_nodes u) (order_nodes y)
          led_order m = order_same m ∙ node_changed order_node (row_led x.order.before) (led_by x.order.before) (λ r. refl) x.order.after u v led m

          pub pieces_else : (m : ℕ) → m ≢ n → piece_in y m ≡ piece_in s m
          pieces_else m h =
              unwritten_row (λ r. r.piece) (row_prior x.curve.before) (λ r. refl) x.curve.after w y prior m
              ∙ unwritten_row (λ r. r.piece) (row_next x.curve.after) (λ r. refl) x.curve.before v w next m
              ∙ unwritten_row (λ r. r.piece) (row_led x.order.before) (λ r. refl) x.order.after u v led m
              ∙ unwritten_row (λ r. r.piece) (row_followed x.order.after) (λ r. refl) x.order.before t u followed m
              ∙ ap (option_map (λ (r : Row). r.piece)) (gone.others m h)

          module _ (ends : Ends) (o : IsOrder s ends) (left : Ends) (first : left.first ≡ cond (is_none x.order.before) x.order.after ends.first) (last : left.last ≡ cond (is_none x.order.after) x.order.before ends.last) where
            headed : (k : ℕ) → order_head left.first k ≡ cond ((k == 0) && is_none x.order.before) (Some x.order.after) (order_head ends.first k)
            headed zero = ap Some first ∙ by (is_none x.order.before)
              where
                by : (b : Bool) → Some (cond b x.order.after ends.first) ≡ cond b (Some x.order.after) (Some ends.first)
                by true = refl
                by false = refl
            headed (suc k) = sym (ap (λ b. cond (b && is_none x.order.before) (Some x.order.after) None) (other_number (suc k) 0 (λ e. absurd (omega (arith, e)))))

            without_n : IsListed (order_nodes y) left.first 0 (without n (order_from s ends.first))
            without_n = list_removed (order_head ends.first) (order_nodes s) n (order_node x) (all_listed s ends.first (order_from s ends.first) o.listed) order_n (order_nodes t) (cut order_node) (order_nodes u) followed_order (order_nodes y) led_order (order_head left.first) headed 0 (order_from s ends.first) o.listed

            pub order_without : order_from y left.first ≡ without n (order_from s ends.first)
            order_without = order_is y left.first (without n (order_from s ends.first)) without_n

            pub kept_without : IsOrder y left
            kept_without = order_made y left (without n (order_from s ends.first)) without_n
                (last
                ∙ ap (λ r. cond (is_none r) x.order.before ends.last) (sym after_n)
                ∙ ap (λ r. cond (is_none (after_at (order_nodes s) n)) r ends.last) (sym before_n)
                ∙ ap (λ r. cond (is_none (after_at (order_nodes s) n)) (before_at (order_nodes s) n) r) o.last
                ∙ sym (last_without (order_nodes s) n None ends.first (order_from s ends.first) o.listed.linked (once s ends o) (is_in s ends o n (ap is_some was))))
              where
                after_n : after_at (order_nodes s) n ≡ x.order.after
                after_n = ap (λ r. first_or (option_map (λ (z : Node). z.after) r)) order_n

                before_n : before_at (order_nodes s) n ≡ x.order.before
                before_n = ap (λ r. first_or (option_map (λ (z : Node). z.before) r)) order_n
