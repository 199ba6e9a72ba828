-- The keys of the outer cycles as they are pushed.
use Rattle.std.proofs.Common.{◌≡◌, Bool, true, false, cond, refl, sym, ◌∙◌, subst, List, [], ◌∷◌, ◌++◌}
use Rattle.std.specs.Prelude.{Option, Some}
use Rattle.std.proofs.lemmas.List.{append-nil}
use Rattle.slab_laws.specs.declared.names.CycleId.{CycleId}
use Rattle.slab_laws.specs.FaceLists.{Lists}
use Rattle.slab_laws.specs.Tables.{names, NamesAscend}
use Rattle.slab_laws.specs.View.{View, Faces, cycle_after_in}
use Rattle.dcel_records.specs.declared.ranks.RankKey.{RankKey}
use Rattle.face_ranks.specs.OuterKeys.{cycle_rank_key, is_outer_in}
use Rattle.face_ranks.proofs.KeysPushed.{IsPushed, one_pushed, one_passed}

module _ (v : View) (f : Faces) (l : Lists) (last : Option CycleId) (c : CycleId) (ascend : NamesAscend (names f.cycles)) (e : Some c ≡ cycle_after_in f last) (order : List RankKey) (w : IsPushed v f l order last) where
  by_kind : (b : Bool) → is_outer_in f c ≡ b → (more : List RankKey) → more ≡ order ++ cond b (cycle_rank_key v f l c ∷ []) [] → IsPushed v f l more (Some c)
  by_kind true t more p = one_pushed v f l last c ascend e order w t more (cycle_rank_key v f l c) refl p
  by_kind false t more p = subst (λ ks. IsPushed v f l ks (Some c)) (sym (p ∙ append-nil order)) (one_passed v f l last c ascend e order w t)

  -- one cycle more is gone through
  pub one_more : (more : List RankKey) → more ≡ order ++ cond (is_outer_in f c) (cycle_rank_key v f l c ∷ []) [] → IsPushed v f l more (Some c)
  one_more = by_kind (is_outer_in f c) refl
