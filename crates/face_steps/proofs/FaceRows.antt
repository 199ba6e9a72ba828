-- What is read of the tables of cycles and faces after a single change of them.
use Rattle.std.proofs.Common.{◌≡◌, ◌≢◌, ◌↔◌, ℕ, ◌<◌, ◌==◌, Bool, false, cond, arith, List, [], ◌∷◌, Option, Some, None, IsSome, option_map, refl, sym, ap, ◌∙◌, subst, ◌⊎◌, inl, inr}
use Rattle.std.specs.List.{AllByRecursion, Contains}
use Rattle.std.proofs.lemmas.Bool.{cases_eq, cases_lt, false≢true}
use Rattle.integers.proofs.Tests.{nat_lt_yes, nat_lt_no, other_number, same_number}
use Rattle.slab_laws.specs.declared.names.CycleId.{CycleId}
use Rattle.slab_laws.specs.declared.names.DartId.{DartId}
use Rattle.slab_laws.specs.declared.names.FaceId.{FaceId}
use Rattle.slab_laws.specs.FacesSound.{lead_in}
use Rattle.slab_laws.specs.Sound.{IsGraphSound}
use Rattle.slab_laws.specs.Tables.{NamesAscend}
use Rattle.slab_laws.specs.View.{View, HasDart, cycle_or}
use Rattle.slab_faces.proofs.Member.{Member, member_in, in_member}
use Rattle.arr_notes.specs.CycleNames.{cycle_label}
use Rattle.arr_notes.specs.FaceWriters.{put_name, del_name}
use Rattle.arr_notes.proofs.Reading.{dart_number}
use Rattle.face_changes.specs.FacesByPairs.{first_or}
use Rattle.face_changes.proofs.CycleNames.{names_tell_cycles}

-- ---- rows
module _ {X : Type 0} where
  pub map_some : {Y : Type 0} (F : X → Y) (o : Option X) → IsSome o ↔ IsSome (option_map F o)
  map_some F None = (λ h. h, λ h. h)
  map_some F (Some x) = (λ h. h, λ h. h)

pub map_cycle : (F : CycleId → CycleId) (o : Option CycleId) → IsSome o → cycle_or (option_map F o) ≡ F (cycle_or o)
map_cycle F None h = absurd (false≢true h)
map_cycle F (Some c) h = refl

-- ---- tests of names
pub cycle_number : (a b : CycleId) → a ≢ b → a.0 ≢ b.0
cycle_number a b e q = e (λ i. record { 0 = q i })

pub face_number : (a b : FaceId) → a ≢ b → a.0 ≢ b.0
face_number a b e q = e (λ i. record { 0 = q i })

-- another cycle for one of them
pub swap_hit : (gone kept c : CycleId) → c ≡ gone → cond (c.0 == gone.0) kept c ≡ kept
swap_hit gone kept c e = ap (λ z. cond (z.0 == gone.0) kept c) e ∙ ap (λ b. cond b kept c) (same_number gone.0)

pub swap_miss : (gone kept c : CycleId) → c ≢ gone → cond (c.0 == gone.0) kept c ≡ c
swap_miss gone kept c e = ap (λ b. cond b kept c) (other_number c.0 gone.0 (cycle_number c gone e))

-- ---- names that ascend
module _ (k : ℕ) where
  abbrev pick : Bool → Bool → ℕ → List ℕ → List ℕ
  pick b c j ns = cond b (k ∷ j ∷ ns) (cond c (j ∷ ns) (j ∷ put_name k ns))

  -- where k goes: before j, in its place, or behind it
  data Where (j : ℕ) (ns : List ℕ) : Type 0 where
    before : k < j → put_name k (j ∷ ns) ≡ k ∷ j ∷ ns → Where j ns
    there : j ≡ k → put_name k (j ∷ ns) ≡ j ∷ ns → Where j ns
    after : j < k → put_name k (j ∷ ns) ≡ j ∷ put_name k ns → Where j ns

  where_in : (j : ℕ) (ns : List ℕ) → Where j ns
  unfolding put_name
  where_in j ns = elim (cases_lt k j) [
    | inl l ↦ before l (ap (λ b. pick b (j == k) j ns) (nat_lt_yes k j l))
    | inr l ↦ elim (cases_eq j k) [
      | inl e ↦ there e (ap (λ b. pick b (j == k) j ns) (nat_lt_no k j l) ∙ ap (λ b. pick false b j ns) (ap (λ z. z == k) e ∙ same_number k))
      | inr ne ↦ after (omega arith) (ap (λ b. pick b (j == k) j ns) (nat_lt_no k j l) ∙ ap (λ b. pick false b j ns) (other_number j k ne))
    ]
  ]

  put_empty : put_name k [] ≡ k ∷ []
  unfolding put_name
  put_empty = refl

  name_out : (n : ℕ) (ns : List ℕ) → Member (put_name k ns) n → Member ns n ⊎ (n ≡ k)
  name_out n [] m = elim (subst (λ xs. Member xs n) put_empty m) [ inl e ↦ inr (sym e) | inr r ↦ absurd r ]
  name_out n (j ∷ ns) m = elim (where_in j ns) [
    | before l q ↦ elim (subst (λ xs. Member xs n) q m) [ inl e ↦ inr (sym e) | inr r ↦ inl r ]
    | there e q ↦ inl (subst (λ xs. Member xs n) q m)
    | after l q ↦ elim (subst (λ xs. Member xs n) q m) [ inl e ↦ inl (inl e) | inr r ↦ elim (name_out n ns r) [ inl i ↦ inl (inr i) | inr e ↦ inr e ] ]
  ]

  name_in : (n : ℕ) (ns : List ℕ) → Member ns n → Member (put_name k ns) n
  name_in n [] m = absurd m
  name_in n (j ∷ ns) m = elim (where_in j ns) [
    | before l q ↦ subst (λ xs. Member xs n) (sym q) (inr m)
    | there e q ↦ subst (λ xs. Member xs n) (sym q) m
    | after l q ↦ subst (λ xs. Member xs n) (sym q) (elim m [ inl e ↦ inl e | inr r ↦ inr (name_in n ns r) ])
  ]

  name_new : (ns : List ℕ) → Member (put_name k ns) k
  name_new [] = subst (λ xs. Member xs k) (sym put_empty) (inl refl)
  name_new (j ∷ ns) = elim (where_in j ns) [
    | before l q ↦ subst (λ xs. Member xs k) (sym q) (inl refl)
    | there e q ↦ subst (λ xs. Member xs k) (sym q) (inl e)
    | after l q ↦ subst (λ xs. Member xs k) (sym q) (inr (name_new ns))
  ]

  pub put_name_has : (ns : List ℕ) (n : ℕ) → Contains (put_name k ns) n ↔ (Contains ns n ⊎ (n ≡ k))
  put_name_has ns n = (
    λ c. elim (name_out n ns (in_member _ n c)) [ inl m ↦ inl (member_in ns n m) | inr e ↦ inr e ],
    λ c. elim c [ inl m ↦ member_in _ n (name_in n ns (in_member ns n m)) | inr e ↦ subst (Contains (put_name k ns)) (sym e) (member_in _ k (name_new ns)) ],
  )

  name_above : (i : ℕ) (ns : List ℕ) → i < k → AllByRecursion (λ m. i < m) ns → AllByRecursion (λ m. i < m) (put_name k ns)
  name_above i [] l h = subst (AllByRecursion (λ m. i < m)) (sym put_empty) (l, tt)
  name_above i (j ∷ ns) l h = elim (where_in j ns) [
    | before b q ↦ subst (AllByRecursion (λ m. i < m)) (sym q) (l, h)
    | there e q ↦ subst (AllByRecursion (λ m. i < m)) (sym q) h
    | after b q ↦ subst (AllByRecursion (λ m. i < m)) (sym q) (h.0, name_above i ns l h.1)
  ]

  all_weaker : (i j : ℕ) (ns : List ℕ) → i < j → AllByRecursion (λ m. j < m) ns → AllByRecursion (λ m. i < m) ns
  all_weaker i j [] l h = tt
  all_weaker i j (n ∷ ns) l h = (let a = h.0 in omega arith, all_weaker i j ns l h.1)

  pub put_name_ascends : (ns : List ℕ) → NamesAscend ns → NamesAscend (put_name k ns)
  put_name_ascends [] h = subst NamesAscend (sym put_empty) (tt, tt)
  put_name_ascends (j ∷ ns) h = elim (where_in j ns) [
    | before b q ↦ subst NamesAscend (sym q) ((b, all_weaker k j ns b h.0), h)
    | there e q ↦ subst NamesAscend (sym q) h
    | after b q ↦ subst NamesAscend (sym q) (name_above j ns b h.0, put_name_ascends ns h.1)
  ]

  -- behind the first the first stays
  pub first_before : (ns : List ℕ) → Contains ns (first_or ns).0 → (first_or ns).0 < k → first_or (put_name k ns) ≡ first_or ns
  first_before [] c l = absurd (in_member [] 0 c)
  first_before (j ∷ ns) c l = elim (where_in j ns) [
    | before b q ↦ absurd (omega arith)
    | there e q ↦ ap first_or q
    | after b q ↦ ap first_or q
  ]

-- ---- the orbit of d, by the labels of names
module _ (v : View) (d : DartId) (c b : CycleId) (k : DartId) (s : IsGraphSound v) (K : HasDart v k) (D : HasDart v d) where
  pub orbit_hit : lead_in v k ≡ lead_in v d → cond ((cycle_label v k).0 == (cycle_label v d).0) c b ≡ c
  orbit_hit e = ap (λ z. cond (z.0 == (cycle_label v d).0) c b) ((names_tell_cycles v k d s K D).1 e) ∙ ap (λ z. cond z c b) (same_number (cycle_label v d).0)

  pub orbit_miss : lead_in v k ≢ lead_in v d → cond ((cycle_label v k).0 == (cycle_label v d).0) c b ≡ b
  orbit_miss n = ap (λ z. cond z c b) (other_number _ _ (dart_number (cycle_label v k) (cycle_label v d) (λ e. n ((names_tell_cycles v k d s K D).0 e))))

-- ---- one name fewer
module _ (k : ℕ) where
  data Left (j : ℕ) (ns : List ℕ) : Type 0 where
    gone : j ≡ k → del_name k (j ∷ ns) ≡ ns → Left j ns
    stays : j ≢ k → del_name k (j ∷ ns) ≡ j ∷ del_name k ns → Left j ns

  left_in : (j : ℕ) (ns : List ℕ) → Left j ns
  unfolding del_name
  left_in j ns = elim (cases_eq j k) [
    | inl e ↦ gone e (ap (λ b. cond b ns (j ∷ del_name k ns)) (ap (λ z. z == k) e ∙ same_number k))
    | inr n ↦ stays n (ap (λ b. cond b ns (j ∷ del_name k ns)) (other_number j k n))
  ]

  del_empty : del_name k [] ≡ []
  unfolding del_name
  del_empty = refl

  all_above : (ns : List ℕ) (i n : ℕ) → AllByRecursion (λ m. i < m) ns → Member ns n → i < n
  all_above [] i n h m = absurd m
  all_above (j ∷ ns) i n h (inl e) = let a = h.0 in omega (arith, e)
  all_above (j ∷ ns) i n h (inr m) = all_above ns i n h.1 m

  del_out : (n : ℕ) (ns : List ℕ) → NamesAscend ns → Member (del_name k ns) n → Member ns n × (n ≢ k)
  del_out n [] h m = absurd (subst (λ xs. Member xs n) del_empty m)
  del_out n (j ∷ ns) h m = elim (left_in j ns) [
    | gone e q ↦ let r = subst (λ xs. Member xs n) q m in (inr r, λ z. let a = all_above ns j n h.0 r in omega (arith, e, z))
    | stays d q ↦ elim (subst (λ xs. Member xs n) q m) [ inl e ↦ (inl e, λ z. d (e ∙ z)) | inr r ↦ let i = del_out n ns h.1 r in (inr i.0, i.1) ]
  ]

  del_in : (n : ℕ) (ns : List ℕ) → Member ns n → n ≢ k → Member (del_name k ns) n
  del_in n [] m d = absurd m
  del_in n (j ∷ ns) m d = elim (left_in j ns) [
    | gone e q ↦ subst (λ xs. Member xs n) (sym q) (elim m [ inl i ↦ absurd (d (sym i ∙ e)) | inr r ↦ r ])
    | stays i q ↦ subst (λ xs. Member xs n) (sym q) (elim m [ inl i ↦ inl i | inr r ↦ inr (del_in n ns r d) ])
  ]

  pub del_name_has : (ns : List ℕ) (n : ℕ) → NamesAscend ns → Contains (del_name k ns) n ↔ (Contains ns n × (n ≢ k))
  del_name_has ns n h = (
    λ c. let r = del_out n ns h (in_member _ n c) in (member_in ns n r.0, r.1),
    λ c. member_in _ n (del_in n ns (in_member ns n c.0) c.1),
  )

  all_left : (i : ℕ) (ns : List ℕ) → AllByRecursion (λ m. i < m) ns → AllByRecursion (λ m. i < m) (del_name k ns)
  all_left i [] h = subst (AllByRecursion (λ m. i < m)) (sym del_empty) h
  all_left i (j ∷ ns) h = elim (left_in j ns) [
    | gone e q ↦ subst (AllByRecursion (λ m. i < m)) (sym q) h.1
    | stays d q ↦ subst (AllByRecursion (λ m. i < m)) (sym q) (h.0, all_left i ns h.1)
  ]

  pub del_name_ascends : (ns : List ℕ) → NamesAscend ns → NamesAscend (del_name k ns)
  del_name_ascends [] h = subst NamesAscend (sym del_empty) h
  del_name_ascends (j ∷ ns) h = elim (left_in j ns) [
    | gone e q ↦ subst NamesAscend (sym q) h.1
    | stays d q ↦ subst NamesAscend (sym q) (all_left j ns h.0, del_name_ascends ns h.1)
  ]

  -- where the first isn't the one that goes it stays
  pub first_left : (ns : List ℕ) → Contains ns (first_or ns).0 → (first_or ns).0 ≢ k → first_or (del_name k ns) ≡ first_or ns
  first_left [] c d = absurd (in_member [] 0 c)
  first_left (j ∷ ns) c d = elim (left_in j ns) [
    | gone e q ↦ absurd (d e)
    | stays i q ↦ ap first_or q
  ]
