-- The key of each outer cycle is pushed as all cycles are gone through.
use Rattle.std.proofs.Common.{◌≡◌, ℕ, ◌<◌, ◌≤◌, Bool, true, false, cond, arith, refl, sym, ap, ◌∙◌, subst, inl, List, [], ◌∷◌, ◌++◌, length, map, append_assoc}
use Rattle.std.specs.Prelude.{Option, Some, None, filter}
use Rattle.std.specs.Option.{option_map}
use Rattle.std.proofs.lemmas.List.{append-nil, length-map, length-append}
use Rattle.plane_graphs.specs.Ascending.{Member}
use Rattle.plane_graphs.proofs.Lists.{of_map, of_filter}
use Rattle.slab_laws.specs.declared.names.CycleId.{CycleId}
use Rattle.slab_laws.specs.FaceLists.{Lists}
use Rattle.slab_laws.specs.Tables.{is_after, names, name_after, NamesAscend}
use Rattle.slab_laws.specs.View.{View, Faces, HasCycle, cycle_id, cycle_after_in}
use Rattle.sound_views.proofs.NameTables.{name_has}
use Rattle.arr_notes.proofs.After.{left, left-next, all_left, later, later-none, fewer}
use Rattle.dcel_records.specs.declared.ranks.RankKey.{RankKey}
use Rattle.face_ranks.specs.OuterKeys.{cycle_rank_key, is_outer_in, outer_keys, outer_keys_of}

-- the cycles that come after the last one
abbrev pub cycles_left : Faces → Option CycleId → List CycleId
cycles_left f last = left cycle_id (λ (c : CycleId). c.0) (λ n. refl) (names f.cycles) last

-- the keys of those gone through are there, and those of the rest are left
pub record IsPushed (v : View) (f : Faces) (l : Lists) (order : List RankKey) (last : Option CycleId) : Type 0 where
  pub so_far : order ++ outer_keys_of v f l (cycles_left f last) ≡ outer_keys v f l

module _ (v : View) (f : Faces) (l : Lists) where
  pub none_pushed : (order : List RankKey) → order ≡ [] → IsPushed v f l order None
  none_pushed order e = record { so_far = ap (λ ks. ks ++ outer_keys_of v f l (cycles_left f None)) e ∙ ap (outer_keys_of v f l) (sym (all_left cycle_id (λ (c : CycleId). c.0) (λ n. refl) (names f.cycles))) }

  module _ (last : Option CycleId) (c : CycleId) (ascend : NamesAscend (names f.cycles)) (e : Some c ≡ cycle_after_in f last) where
    next : cycles_left f last ≡ c ∷ cycles_left f (Some c)
    next = left-next cycle_id (λ (x : CycleId). x.0) (λ n. refl) (names f.cycles) last c ascend e

    pub cycle_has : HasCycle f c
    cycle_has =
        let w = of_map cycle_id c (later (names f.cycles) (option_map (λ (x : CycleId). x.0) last)) (subst (λ ys. Member c ys) (sym next) (inl refl)) in
        let m = (of_filter (is_after (option_map (λ (x : CycleId). x.0) last)) w.0 (names f.cycles) w.1).0 in
        name_has f.cycles c.0 (subst (λ n. Member n (names f.cycles)) (sym (ap (λ (x : CycleId). x.0) w.2)) m)

    pub fewer_cycles : length (cycles_left f (Some c)) < length (cycles_left f last)
    fewer_cycles = fewer cycle_id (λ (x : CycleId). x.0) (λ n. refl) (names f.cycles) last c ascend e

    module _ (order : List RankKey) (w : IsPushed v f l order last) where
      keys_next : (b : Bool) → is_outer_in f c ≡ b → outer_keys_of v f l (cycles_left f last) ≡ cond b (cycle_rank_key v f l c ∷ outer_keys_of v f l (cycles_left f (Some c))) (outer_keys_of v f l (cycles_left f (Some c)))
      keys_next b t = ap (outer_keys_of v f l) next ∙ step b t
        where
          step : (b : Bool) → is_outer_in f c ≡ b
              → map (cycle_rank_key v f l) (cond (is_outer_in f c) (c ∷ filter (is_outer_in f) (cycles_left f (Some c))) (filter (is_outer_in f) (cycles_left f (Some c)))) ≡ cond b (cycle_rank_key v f l c ∷ outer_keys_of v f l (cycles_left f (Some c))) (outer_keys_of v f l (cycles_left f (Some c)))
          step true t = rw t refl
          step false t = rw t refl

      pub one_pushed : is_outer_in f c ≡ true → (more : List RankKey) (key : RankKey) → key ≡ cycle_rank_key v f l c → more ≡ order ++ key ∷ [] → IsPushed v f l more (Some c)
      one_pushed t more key k p = record {
        so_far =
            ap (λ ks. ks ++ outer_keys_of v f l (cycles_left f (Some c))) (p ∙ ap (λ (x : RankKey). order ++ x ∷ []) k)
            ∙ append_assoc order (cycle_rank_key v f l c ∷ []) (outer_keys_of v f l (cycles_left f (Some c)))
            ∙ ap (λ ks. order ++ ks) (sym (keys_next true t)) ∙ w.so_far;
      }

      pub one_passed : is_outer_in f c ≡ false → IsPushed v f l order (Some c)
      one_passed t = record { so_far = ap (λ ks. order ++ ks) (sym (keys_next false t)) ∙ w.so_far }

      -- no more are pushed than there are cycles
      pub key_fits : is_outer_in f c ≡ true → length order < length f.cycles
      key_fits t =
          let a = ap length w.so_far in
          let b = ap length (keys_next true t) in
          let d = length-append order (outer_keys_of v f l (cycles_left f last)) in
          let k = length-map (filter (is_outer_in f) (map cycle_id (names f.cycles))) (cycle_rank_key v f l) in
          let n = kept (map cycle_id (names f.cycles)) in
          let i = length-map (names f.cycles) cycle_id in
          let j = length-map f.cycles (λ r. r.0) in
          omega arith
        where
          kept : (cs : List CycleId) → length (filter (is_outer_in f) cs) ≤ length cs
          kept [] = omega arith
          kept (x ∷ xs) = step (is_outer_in f x) (kept xs)
            where
              step : (b : Bool) → length (filter (is_outer_in f) xs) ≤ length xs → length (cond b (x ∷ filter (is_outer_in f) xs) (filter (is_outer_in f) xs)) ≤ length (x ∷ xs)
              step true h = omega arith
              step false h = omega arith

  no_more : (o : Option ℕ) → None ≡ option_map cycle_id o → o ≡ None
  no_more None e = refl
  no_more (Some n) e = absurd cc

  pub all_pushed : (last : Option CycleId) (order : List RankKey) → None ≡ cycle_after_in f last → IsPushed v f l order last → order ≡ outer_keys v f l
  all_pushed last order e w =
      sym (append-nil order)
      ∙ ap (λ ns. order ++ outer_keys_of v f l (map cycle_id ns)) (sym (later-none (names f.cycles) (option_map (λ (x : CycleId). x.0) last) (no_more (name_after (names f.cycles) (option_map (λ (x : CycleId). x.0) last)) e)))
      ∙ w.so_far
