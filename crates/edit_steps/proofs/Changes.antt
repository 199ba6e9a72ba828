-- Marks put in and taken out, one after the other.
use Rattle.std.proofs.Common.{◌≡◌, ℕ, List, [], ◌∷◌, Bool, true, false, cond, not, ◌&&◌, refl, sym, ap, ap₂, ◌∙◌, subst, inl, inr, ◌⊎◌, ⊎_elim, Less}
use Rattle.std.proofs.lemmas.Cmp.{tied_itself}
use Rattle.std.specs.List.{list_any, filter}
use Rattle.std.specs.Prelude.{map}
use Rattle.plane_graphs.specs.Line.{same_point}
use Rattle.plane_graphs.specs.Ascending.{place, Member, IsAscending}
use Rattle.plane_graphs.specs.Graph.{Mark, Graph, mark_cmp, is_at, same_curve}
use Rattle.edit_steps.specs.Steps.{AddCurve, AddEdge, RemoveCurve, RemoveEdge, apply, run, more_step, less_step}
use Rattle.edit_steps.specs.Allowed.{IsSound, AreSound}
use Rattle.plane_graphs.proofs.Ascending.{ascending_unique, IsAscending-place, All-member}
use Rattle.plane_graphs.proofs.Lists.{and_in, not_out, not_in, clash, of_place, in_place, any_none, in_filter, of_filter, filter_same, IsAscending-filter}
use Rattle.plane_graphs.proofs.Order.{same_out, same_in, curve_in, curve_out, mark_cmp_total, mark_cmp_exact}
use Rattle.plane_graphs.proofs.Marks.{mark_path}
use Rattle.exact_plane.specs.PointOrderLaws.{and_true}

-- ---- marks put in, one after the other
abbrev pub with_marks : Graph → List Mark → Graph
with_marks g ms = record g { marks = ms }

pub more_is : (g G : Graph) (m : Mark) → apply (more_step g m) G ≡ with_marks G (place mark_cmp m G.marks)
unfolding apply more_step
more_is g G m = by (list_any (is_at m.low m.high) g.marks)
  where
    by : (b : Bool) → apply (cond b (AddCurve m.low m.high m.curve) (AddEdge m.low m.high m.curve)) G ≡ with_marks G (place mark_cmp m G.marks)
    by true = refl
    by false = refl

-- a mark is not among those that come after it
not_after : (m : Mark) (ms : List Mark) → IsAscending mark_cmp (m ∷ ms) → Member m ms → ⊥
not_after m ms a h = let t = tied_itself mark_cmp_total m in let e = All-member (λ n. mark_cmp m n ≡ Less) m ms a.0 h in cc

-- what is there when the mark m comes: the first marks, and some of the new ones
pub record IsMidway (firsts news ends : List Mark) (m : Mark) (xs : List Mark) : Type 0 where
  pub here : Member m news
  pub ascend : IsAscending mark_cmp xs
  pub part : (n : Mark) → Member n xs → Member n ends
  pub origin : (n : Mark) → Member n xs → Member n firsts ⊎ (Member n news × (n ≡ m → ⊥))
  pub kept : (n : Mark) → Member n firsts → Member n xs

module _ (g G : Graph) (firsts news ends : List Mark) (whole : IsAscending mark_cmp ends)
    (either : (m : Mark) → Member m ends → Member m news ⊎ Member m firsts) (new_in : (m : Mark) → Member m news → Member m ends) (first_in : (m : Mark) → Member m firsts → Member m ends)
    (sound : (m : Mark) (xs : List Mark) → IsMidway firsts news ends m xs → IsSound (more_step g m) (with_marks G xs)) where
  record Going (ms xs : List Mark) : Type 0 where
    order : IsAscending mark_cmp ms
    news_of : (n : Mark) → Member n ms → Member n news
    ascend : IsAscending mark_cmp xs
    origin : (n : Mark) → Member n xs → Member n firsts ⊎ (Member n news × (Member n ms → ⊥))
    kept : (n : Mark) → Member n firsts → Member n xs
    cover : (n : Mark) → Member n news → Member n ms ⊎ Member n xs

  part_of : (ms xs : List Mark) → Going ms xs → (n : Mark) → Member n xs → Member n ends
  part_of ms xs h n k = ⊎_elim (λ i. first_in n i) (λ i. new_in n i.0) (h.origin n k)

  going_on : (m : Mark) (ms xs : List Mark) → Going (m ∷ ms) xs → Going ms (place mark_cmp m xs)
  going_on m ms xs h = record {
    order = h.order.1;
    news_of = λ n k. h.news_of n (inr k);
    ascend = IsAscending-place mark_cmp mark_cmp_total m xs h.ascend;
    origin = λ n k. ⊎_elim (λ e. inr (h.news_of n (inl e), λ l. not_after m ms h.order (subst (λ z. Member z ms) e l))) (λ i. ⊎_elim (λ j. inl j) (λ j. inr (j.0, λ l. j.1 (inr l))) (h.origin n i)) (of_place mark_cmp mark_cmp_total mark_cmp_exact n m xs k);
    kept = λ n k. in_place mark_cmp mark_cmp_total mark_cmp_exact n m xs (inr (h.kept n k));
    cover = λ n k. ⊎_elim (λ i. ⊎_elim (λ e. inr (in_place mark_cmp mark_cmp_total mark_cmp_exact n m xs (inl e))) (λ l. inl l) i) (λ i. inr (in_place mark_cmp mark_cmp_total mark_cmp_exact n m xs (inr i))) (h.cover n k);
  }

  put_from : (ms xs : List Mark) → Going ms xs → (run (map (more_step g) ms) (with_marks G xs) ≡ with_marks G ends) × AreSound (map (more_step g) ms) (with_marks G xs)
  unfolding run
  put_from [] xs h = (λ i. with_marks G (ascending_unique mark_cmp mark_cmp_total xs ends h.ascend whole (part_of [] xs h) (λ n k. ⊎_elim (λ i. ⊎_elim (λ z. absurd z) (λ j. j) (h.cover n i)) (λ i. h.kept n i) (either n k)) i), tt)
  put_from (m ∷ ms) xs h =
      let ih = put_from ms (place mark_cmp m xs) (going_on m ms xs h) in
      let is = more_is g (with_marks G xs) m in
      let mid : IsMidway firsts news ends m xs = record { here = h.news_of m (inl refl); ascend = h.ascend; part = part_of (m ∷ ms) xs h; origin = λ n k. ⊎_elim (λ i. inl i) (λ i. inr (i.0, λ e. i.1 (inl e))) (h.origin n k); kept = h.kept } in
      (ap (run (map (more_step g) ms)) is ∙ ih.0, (sound m xs mid, subst (AreSound (map (more_step g) ms)) (sym is) ih.1))

  pub marks_put : IsAscending mark_cmp firsts → IsAscending mark_cmp news → (run (map (more_step g) news) (with_marks G firsts) ≡ with_marks G ends) × AreSound (map (more_step g) news) (with_marks G firsts)
  marks_put a b = put_from news firsts (record { order = b; news_of = λ n k. k; ascend = a; origin = λ n k. inl k; kept = λ n k. k; cover = λ n k. inl k })

-- ---- marks taken out
abbrev pub this : Mark → Mark → Bool
this m n = is_at m.low m.high n && same_curve n.curve m.curve

pub this_out : (m n : Mark) → this m n ≡ true → n ≡ m
this_out m n h =
    let a = and_true (is_at m.low m.high n) (same_curve n.curve m.curve) h in
    let b = and_true (same_point n.low m.low) (same_point n.high m.high) a.0 in
    mark_path n m.low m.high m.curve (same_out n.low m.low b.0) (same_out n.high m.high b.1) (curve_out n.curve m.curve a.1)

pub this_in : (m n : Mark) → n ≡ m → this m n ≡ true
this_in m n e = and_in (and_in (same_in n.low m.low (ap (λ z. z.low) e)) (same_in n.high m.high (ap (λ z. z.high) e))) (curve_in n.curve m.curve (ap (λ z. z.curve) e))

only_by : (a b : Bool) → (a ≡ true → not b ≡ true → ⊥) → not a ≡ not (a && b)
only_by true true f = refl
only_by true false f = absurd (f refl refl)
only_by false b f = refl

pub less_is : (g G : Graph) (m : Mark) → ((n : Mark) → Member n G.marks → Member n g.marks) → apply (less_step g m) G ≡ with_marks G (filter (λ n. not (this m n)) G.marks)
unfolding apply less_step
less_is g G m f = by (list_any (λ n. is_at m.low m.high n && not (same_curve n.curve m.curve)) g.marks) refl
  where
    by : (b : Bool) → list_any (λ n. is_at m.low m.high n && not (same_curve n.curve m.curve)) g.marks ≡ b → apply (cond b (RemoveCurve m.low m.high m.curve) (RemoveEdge m.low m.high)) G ≡ with_marks G (filter (λ n. not (this m n)) G.marks)
    by true e = refl
    by false e = λ i. with_marks G (filter_same (λ n. not (is_at m.low m.high n)) (λ n. not (this m n)) G.marks (λ n h. only_by (is_at m.low m.high n) (same_curve n.curve m.curve) (λ a b. any_none (λ z. is_at m.low m.high z && not (same_curve z.curve m.curve)) n g.marks e (f n h) (and_in a b))) i)

-- what is there when the mark m goes
pub record IsLeft (g : Graph) (ends : List Mark) (m : Mark) (xs : List Mark) : Type 0 where
  pub here : Member m xs
  pub ascend : IsAscending mark_cmp xs
  pub part : (n : Mark) → Member n xs → Member n g.marks
  pub kept : (n : Mark) → Member n ends → Member n xs

-- xs, a part of g's, loses ms, so that ends is left
pub marks_taken : (g G : Graph) (c : ℕ) (ends ms xs : List Mark) → IsAscending mark_cmp ends → IsAscending mark_cmp ms → IsAscending mark_cmp xs →
    ((m : Mark) → Member m xs → Member m g.marks) → ((m : Mark) → Member m ends → Member m xs) → ((m : Mark) → Member m ends → Member m ms → ⊥) → ((m : Mark) → Member m xs → Member m ms ⊎ Member m ends) → ((m : Mark) → Member m ms → Member m xs) →
    ((m : Mark) → Member m ms → same_curve m.curve c ≡ true) → ((m : Mark) → same_curve m.curve c ≡ true → (ys : List Mark) → IsLeft g ends m ys → IsSound (less_step g m) (with_marks G ys)) →
    (run (map (less_step g) ms) (with_marks G xs) ≡ with_marks G ends) × AreSound (map (less_step g) ms) (with_marks G xs)
unfolding run
marks_taken g G c ends [] xs a o b f h d e w v p = (λ i. with_marks G (ascending_unique mark_cmp mark_cmp_total xs ends b a (λ m n. ⊎_elim (λ k. absurd k) (λ k. k) (e m n)) h i), tt)
marks_taken g G c ends (m ∷ ms) xs a o b f h d e w v p =
    let ys : List Mark = filter (λ n. not (this m n)) xs in
    let asc : IsAscending mark_cmp (filter (λ n. not (this m n)) xs) = IsAscending-filter mark_cmp (λ n. not (this m n)) xs b in
    let part : (n : Mark) → Member n (filter (λ n. not (this m n)) xs) → Member n g.marks = λ n k. f n (of_filter (λ n. not (this m n)) n xs k).0 in
    let kept : (n : Mark) → Member n ends → Member n (filter (λ n. not (this m n)) xs) = λ n k. in_filter (λ n. not (this m n)) n xs (h n k) (not_in (this m n) (λ i. d n k (inl (this_out m n i)))) in
    let later : (n : Mark) → Member n ms → Member n (filter (λ n. not (this m n)) xs) = λ n k. in_filter (λ n. not (this m n)) n xs (w n (inr k)) (not_in (this m n) (λ i. not_after m ms o (subst (λ z. Member z ms) (this_out m n i) k))) in
    let rest : (n : Mark) → Member n (filter (λ n. not (this m n)) xs) → Member n ms ⊎ Member n ends = λ n k.
    let u = of_filter (λ n. not (this m n)) n xs k in
    ⊎_elim (λ i. ⊎_elim (λ j. clash (this_in m n j) (not_out (this m n) u.1)) (λ j. inl j) i) (λ i. inr i) (e n u.0) in
    let ih = marks_taken g G c ends ms ys a o.1 asc part kept (λ n k l. d n k (inr l)) rest later (λ n k. v n (inr k)) p in
    let is = less_is g (with_marks G xs) m f in
    (ap (run (map (less_step g) ms)) is ∙ ih.0, (p m (v m (inl refl)) xs (record { here = w m (inl refl); ascend = b; part = f; kept = h }), subst (AreSound (map (less_step g) ms)) (sym is) ih.1))
