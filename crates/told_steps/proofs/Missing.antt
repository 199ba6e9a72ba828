-- The points of a list that are no vertices of a present, and the steps that take them away, one more point at a time.
use Rattle.std.proofs.Common.{◌≡◌, Bool, true, false, not, cond, List, [], ◌∷◌, ◌++◌, refl, sym, ap, ◌∙◌, subst}
use Rattle.std.proofs.lemmas.List.{append-nil}
use Rattle.std.proofs.lemmas.List.Elements.{filter-append}
use Rattle.std.specs.List.{list_any}
use Rattle.exact_plane.specs.Point.{Point}
use Rattle.exact_plane.specs.PointOrder.{point_cmp}
use Rattle.exact_plane.specs.PointOrderLaws.{point_cmp_total}
use Rattle.plane_graphs.specs.Ascending.{Member, IsAscending}
use Rattle.plane_graphs.specs.Graph.{Graph}
use Rattle.plane_graphs.specs.Line.{same_point}
use Rattle.plane_graphs.proofs.Ascending.{ascending_unique}
use Rattle.plane_graphs.proofs.Lists.{IsAscending-filter, any_in, any_none, any_out, in_filter, not_in, not_out, of_filter}
use Rattle.plane_graphs.proofs.Order.{same_itself, same_out}
use Rattle.edit_steps.specs.Steps.{apply, missing_points, run, tidy_step, tidy_steps}

-- ---- what a test for a point tells
module _ (qs : List Point) where
  pub known : (x : Point) → list_any (same_point x) qs ≡ true → Member x qs
  known x t = let y = any_out (same_point x) qs t in subst (λ z. Member z qs) (sym (same_out x y.0 y.2)) y.1

  pub unknown : (x : Point) → list_any (same_point x) qs ≡ false → Member x qs → ⊥
  unknown x e m = any_none (same_point x) x qs e m (same_itself x)

-- ---- points of ps that aren't among qs
module _ (ps qs : List Point) where
  pub missing_out : (x : Point) → Member x (missing_points ps qs) → Member x ps × (Member x qs → ⊥)
  unfolding missing_points
  missing_out x m =
      let k = of_filter (λ y. not (list_any (same_point y) qs)) x ps m in
      (k.0, unknown qs x (not_out (list_any (same_point x) qs) k.1))

  pub missing_in : (x : Point) → Member x ps → (Member x qs → ⊥) → Member x (missing_points ps qs)
  unfolding missing_points
  missing_in x m none = in_filter (λ y. not (list_any (same_point y) qs)) x ps m (not_in (list_any (same_point x) qs) (λ t. none (known qs x t)))

  pub missing_ascend : IsAscending point_cmp ps → IsAscending point_cmp (missing_points ps qs)
  unfolding missing_points
  missing_ascend a = IsAscending-filter point_cmp (λ y. not (list_any (same_point y) qs)) ps a

  -- one more point
  one_more : (x : Point) (b : Bool) → not (list_any (same_point x) qs) ≡ b → missing_points (ps ++ (x ∷ [])) qs ≡ missing_points ps qs ++ cond b (x ∷ []) []
  unfolding missing_points
  one_more x b e = filter-append (λ y. not (list_any (same_point y) qs)) ps (x ∷ []) ∙ ap (λ c. missing_points ps qs ++ cond c (x ∷ []) []) e

  pub one_missing : (x : Point) → (Member x qs → ⊥) → missing_points (ps ++ (x ∷ [])) qs ≡ missing_points ps qs ++ (x ∷ [])
  one_missing x none = one_more x true (not_in (list_any (same_point x) qs) (λ t. none (known qs x t)))

  pub none_missing : (x : Point) → Member x qs → missing_points (ps ++ (x ∷ [])) qs ≡ missing_points ps qs
  none_missing x m = one_more x false (ap not (any_in (same_point x) x qs m (same_itself x))) ∙ append-nil (missing_points ps qs)

-- lists that have the same missing points
pub same_missing : (ps rs qs : List Point) → IsAscending point_cmp ps → IsAscending point_cmp rs → ((x : Point) → Member x ps → Member x rs) → ((x : Point) → Member x rs → (Member x qs → ⊥) → Member x ps) → missing_points ps qs ≡ missing_points rs qs
same_missing ps rs qs a b f g =
    ascending_unique point_cmp point_cmp_total (missing_points ps qs) (missing_points rs qs) (missing_ascend ps qs a) (missing_ascend rs qs b)
    (λ x m. let k = missing_out ps qs x m in missing_in rs qs x (f x k.0) k.1)
    (λ x m. let k = missing_out rs qs x m in missing_in ps qs x (g x k.0 k.1) k.1)

-- ---- the steps for some points, and then for further ones
pub tidy_steps_on : (xs ys : List Point) (g : Graph) → tidy_steps (xs ++ ys) g ≡ tidy_steps xs g ++ tidy_steps ys (run (tidy_steps xs g) g)
unfolding tidy_steps run
tidy_steps_on [] ys g = refl
tidy_steps_on (x ∷ xs) ys g = ap (λ ss. tidy_step x g ∷ ss) (tidy_steps_on xs ys (apply (tidy_step x g) g))

pub one_step_on : (xs : List Point) (x : Point) (g : Graph) → tidy_steps (xs ++ (x ∷ [])) g ≡ tidy_steps xs g ++ (tidy_step x (run (tidy_steps xs g) g) ∷ [])
unfolding tidy_steps
one_step_on xs x g = tidy_steps_on xs (x ∷ []) g
