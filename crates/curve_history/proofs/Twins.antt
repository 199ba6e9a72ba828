-- The nodes of both sides stay twins where a pair comes or goes.
use Rattle.std.proofs.Common.{◌≡◌, ◌≢◌, ◌⊎◌, inl, inr, ℕ, List, ◌==◌, cond, not, Option, Some, None, option_map, refl, sym, ap, subst, ◌∙◌}
use Rattle.std.specs.List.{filter}
use Rattle.std.proofs.lemmas.Bool.{cases_eq}
use Rattle.slab_laws.specs.Tables.{row_at}
use Rattle.curve_history.specs.Changed.{IsOfCurve, IsPairMore, IsPairLess}
use Rattle.linked_chains.specs.Chains.{Chained, Link, HasKey, HasNode, entry_at, chain}
use Rattle.linked_chains.specs.declared.node.Entry.{Entry}
use Rattle.curve_history.specs.HistoryInMemory.{entry, Says, IsBeside, AreTwins, ArePairs}
use Rattle.edit_steps.specs.EditLaws.{curve_of}
use Rattle.curve_history.proofs.Reading.{node_of}
use Rattle.integers.proofs.Tests.{other_number, same_number}

pub record IsSameEntry (k i t l j s : ℕ) : Type 0 where
  pub key : k ≡ l
  pub item : i ≡ j
  pub twin : t ≡ s

pub entry_path : {k i t l j s : ℕ} → k ≡ l → i ≡ j → t ≡ s → entry k i t ≡ entry l j s
entry_path {k} {i} {t} {l} {j} {s} a b c = rw (a, b, c) refl

pub one_entry : (o : Option Entry) (k i t l j s : ℕ) → o ≡ Some (entry k i t) → o ≡ Some (entry l j s) → IsSameEntry k i t l j s
one_entry o k i t l j s p q =
    let e : entry k i t ≡ entry l j s = cc in
    record { key = ap (λ (x : Entry). x.key) e; item = ap (λ (x : Entry). x.item) e; twin = ap (λ (x : Entry). x.twin) e }

pub never_none : {P : Type 0} (o : Option Entry) (e : Entry) → o ≡ Some e → o ≡ None → P
never_none o e p q = absurd cc

pub same_entry : (o : Option Entry) (e f : Entry) → o ≡ Some e → o ≡ Some f → e ≡ f
same_entry o e f p q = cc

-- ---- what a twin tells
pub beside : (e c : Chained) (n edge i t : ℕ) → ArePairs e c → entry_at e n ≡ Some (entry edge i t) → entry_at c t ≡ Some (entry (curve_of i) edge n)
beside e c n edge i t p h =
    let f = p.forth.twin n (entry edge i t) h in
    f.1 ∙ ap Some (entry_path f.3.curve f.3.edge f.2)

pub beside_node : (e c : Chained) (n : ℕ) (said : Entry) → ArePairs e c → entry_at e n ≡ Some said → IsOfCurve c (curve_of said.item) said.twin
beside_node e c n said p h = let f = p.forth.twin n said h in (f.0, f.1, f.3.curve)

pub beside_back : (e c : Chained) (n k edge t : ℕ) → ArePairs e c → entry_at c n ≡ Some (entry k edge t) → (i : ℕ) × (k ≡ curve_of i) × (entry_at e t ≡ Some (entry edge i n))
beside_back e c n k edge t p h =
    let f = p.back.twin n (entry k edge t) h in
    (f.0.item, f.3.curve, f.1 ∙ ap Some (entry_path (sym f.3.edge) refl f.2))

pub says_beside : (e c : Chained) (edge i : ℕ) → ArePairs e c → Says e edge i → Says c (curve_of i) edge
says_beside e c edge i p s = record { node = s.twin; twin = s.node; is = beside e c s.node edge i s.twin p s.is }

pub says_back : (e c : Chained) (k edge : ℕ) → ArePairs e c → Says c k edge → (i : ℕ) × (k ≡ curve_of i) × Says e edge i
says_back e c k edge p s = let b = beside_back e c s.node k edge s.twin p s.is in (b.0, b.1, record { node = s.twin; twin = s.node; is = b.2 })

-- the twin of a curve's node that says the edge is a node of the edge that says a side of the curve
pub found_beside : (e c : Chained) (edge curve near t : ℕ) (said : Entry) → ArePairs e c → entry_at c near ≡ Some said → entry_at c near ≡ Some (entry curve edge t) → (i : ℕ) × (s : ℕ) × (curve_of i ≡ curve) × (entry_at e said.twin ≡ Some (entry edge i s))
found_beside e c edge curve near t said p h q =
    let b = beside_back e c near curve edge t p q in
    let same : said ≡ entry curve edge t = same_entry (entry_at c near) said (entry curve edge t) h q in
    (b.0, near, sym b.1, subst (λ (x : Entry). entry_at e x.twin ≡ Some (entry edge b.0 near)) (sym same) b.2)

-- ---- a node more
pub record IsNodeMore (old new : Chained) (node : ℕ) (e : Entry) : Type 0 where
  pub fresh : ¬ HasNode old node
  pub here : entry_at new node ≡ Some e
  pub others : (n : ℕ) → n ≢ node → entry_at new n ≡ entry_at old n

pub node_more : (old new : Chained) (node : ℕ) (e : Entry) → ¬ HasNode old node → ((n : ℕ) → entry_at new n ≡ cond (n == node) (Some e) (entry_at old n)) → IsNodeMore old new node e
node_more old new node e f h = record {
  fresh = f;
  here = rw same_number at (h node);
  others = λ n ne. rw (other_number n node ne) at (h n);
}

-- the same, where the new node gets its twin later
pub twin_set : (old mid new : Chained) (node key item s twin : ℕ) → IsNodeMore old mid node (entry key item s) → ((n : ℕ) → entry_at new n ≡ cond (n == node) (option_map (λ e. entry e.key e.item twin) (entry_at mid n)) (entry_at mid n)) → IsNodeMore old new node (entry key item twin)
twin_set old mid new node key item s twin m h = record {
  fresh = m.fresh;
  here = let a = rw same_number at (h node) in rw m.here at a;
  others = λ n ne. let a = rw (other_number n node ne) at (h n) in a ∙ m.others n ne;
}

module _ (Beside : Entry → Entry → Type 0) (a b a' b' : Chained) (m n : ℕ) (x y : Entry) (p : IsNodeMore a a' m x) (q : IsNodeMore b b' n y) (to : x.twin ≡ n) (back : y.twin ≡ m) (r : Beside x y) where
  twins_more : AreTwins Beside a b → AreTwins Beside a' b'
  twins_more t = record { twin = each }
    where
      each : (z : ℕ) (e : Entry) → entry_at a' z ≡ Some e → (f : Entry) × (entry_at b' e.twin ≡ Some f) × (f.twin ≡ z) × Beside e f
      each z e h = elim (cases_eq z m) [
        | inl s ↦
            let o : e ≡ x = same_entry (entry_at a' z) e x h (ap (entry_at a') s ∙ p.here) in
            (y, ap (entry_at b') (ap (λ (w : Entry). w.twin) o ∙ to) ∙ q.here, back ∙ sym s, subst (λ w. Beside w y) (sym o) r)
        | inr ne ↦
            let w = t.twin z e (sym (p.others z ne) ∙ h) in
            (w.0, q.others e.twin (λ s. q.fresh (subst (λ v. HasNode b v) s (node_of b e.twin w.0 w.1))) ∙ w.1, w.2, w.3)
      ]

-- one side
module _ (a a' : Chained) (m n key item : ℕ) (p : IsNodeMore a a' m (entry key item n)) where
  says_more : (k i : ℕ) → Says a' k i → Says a k i ⊎ ((k ≡ key) × (i ≡ item))
  says_more k i s = elim (cases_eq s.node m) [
    | inl e ↦ inr (let f : IsSameEntry k i s.twin key item n = one_entry (entry_at a' s.node) k i s.twin key item n s.is (ap (entry_at a') e ∙ p.here) in (f.key, f.item))
    | inr ne ↦ inl (record { node = s.node; twin = s.twin; is = sym (p.others s.node ne) ∙ s.is })
  ]

  stays_more : (x : ℕ) (e : Entry) → entry_at a x ≡ Some e → entry_at a' x ≡ Some e
  stays_more x e h = p.others x (λ r. p.fresh (subst (λ z. HasNode a z) r (node_of a x e h))) ∙ h

  once_more : ¬ Says a key item → ((m n key item s t : ℕ) → entry_at a m ≡ Some (entry key item s) → entry_at a n ≡ Some (entry key item t) → m ≡ n) → (x y k i s t : ℕ) → entry_at a' x ≡ Some (entry k i s) → entry_at a' y ≡ Some (entry k i t) → x ≡ y
  once_more new o x y k i s t h g = elim (cases_eq x m) [
    | inl e ↦ elim (cases_eq y m) [
      | inl f ↦ e ∙ sym f
      | inr nf ↦ absurd (clash x y s t e nf h g)
    ]
    | inr ne ↦ elim (cases_eq y m) [
      | inl f ↦ absurd (clash y x t s f ne g h)
      | inr nf ↦ o x y k i s t (sym (p.others x ne) ∙ h) (sym (p.others y nf) ∙ g)
    ]
  ]
    where
      clash : (x y s t : ℕ) → x ≡ m → y ≢ m → entry_at a' x ≡ Some (entry k i s) → entry_at a' y ≡ Some (entry k i t) → ⊥
      clash x y s t e nf h g =
          let f : IsSameEntry k i s key item n = one_entry (entry_at a' x) k i s key item n h (ap (entry_at a') e ∙ p.here) in
          new (record { node = y; twin = t; is = sym (p.others y nf) ∙ g ∙ ap Some (entry_path f.key f.item refl) })

pub pair_more : (a a' : Chained) (m n edge curve : ℕ) → IsNodeMore a a' m (entry edge curve n) → ((k : ℕ) → k ≢ edge → chain a' k ≡ chain a k) → ((k : ℕ) → HasKey a' k → HasKey a k ⊎ (k ≡ edge)) → IsPairMore a a' edge curve
pair_more a a' m n edge curve p chains keys = record {
  said = record { node = m; twin = n; is = p.here };
  stays = stays_more a a' m n edge curve p;
  others = says_more a a' m n edge curve p;
  chains = chains;
  keys = keys;
}

-- both sides at once
pub pairs_more : (a b a' b' : Chained) (m n edge strand : ℕ) → IsNodeMore a a' m (entry edge strand n) → IsNodeMore b b' n (entry (curve_of strand) edge m) → ¬ Says a edge strand → ArePairs a b → ArePairs a' b'
pairs_more a b a' b' m n edge strand p q new t =
    let x : Entry = entry edge strand n in
    let y : Entry = entry (curve_of strand) edge m in
    let r : IsBeside (entry edge strand n) (entry (curve_of strand) edge m) = record { edge = refl; curve = refl } in
    record {
      forth = twins_more IsBeside a b a' b' m n x y p q refl refl r t.forth;
      back = twins_more (λ f e. IsBeside e f) b a b' a' n m y x q p refl refl r t.back;
      once = once_more a a' m n edge strand p new t.once;
    }

-- ---- a node fewer
pub record IsNodeLess (old new : Chained) (node : ℕ) (e : Entry) : Type 0 where
  pub was : entry_at old node ≡ Some e
  pub gone : entry_at new node ≡ None
  pub others : (n : ℕ) → n ≢ node → entry_at new n ≡ entry_at old n

pub node_less : (old new : Chained) (node : ℕ) (e : Entry) → entry_at old node ≡ Some e → ((n : ℕ) → entry_at new n ≡ cond (n == node) None (entry_at old n)) → IsNodeLess old new node e
node_less old new node e w h = record {
  was = w;
  gone = rw same_number at (h node);
  others = λ n ne. rw (other_number n node ne) at (h n);
}

-- one side
module _ (a a' : Chained) (m n key item : ℕ) (p : IsNodeLess a a' m (entry key item n)) where
  not_gone : (x k i s : ℕ) → entry_at a' x ≡ Some (entry k i s) → x ≢ m
  not_gone x k i s h e = never_none (entry_at a' x) (entry k i s) h (ap (entry_at a') e ∙ p.gone)

  stays_less : (k i : ℕ) → Says a' k i → Says a k i
  stays_less k i s = record { node = s.node; twin = s.twin; is = sym (p.others s.node (not_gone s.node k i s.twin s.is)) ∙ s.is }

  others_less : (k i : ℕ) → Says a k i → Says a' k i ⊎ ((k ≡ key) × (i ≡ item))
  others_less k i s = elim (cases_eq s.node m) [
    | inl e ↦ inr (let f : IsSameEntry k i s.twin key item n = one_entry (entry_at a s.node) k i s.twin key item n s.is (ap (entry_at a) e ∙ p.was) in (f.key, f.item))
    | inr ne ↦ inl (record { node = s.node; twin = s.twin; is = p.others s.node ne ∙ s.is })
  ]

  once_less : ((m n key item s t : ℕ) → entry_at a m ≡ Some (entry key item s) → entry_at a n ≡ Some (entry key item t) → m ≡ n) → (x y k i s t : ℕ) → entry_at a' x ≡ Some (entry k i s) → entry_at a' y ≡ Some (entry k i t) → x ≡ y
  once_less o x y k i s t h g = o x y k i s t (sym (p.others x (not_gone x k i s h)) ∙ h) (sym (p.others y (not_gone y k i t g)) ∙ g)

  gone_less : ((m n key item s t : ℕ) → entry_at a m ≡ Some (entry key item s) → entry_at a n ≡ Some (entry key item t) → m ≡ n) → ¬ Says a' key item
  gone_less o s =
      let ne : s.node ≢ m = not_gone s.node key item s.twin s.is in
      ne (o s.node m key item s.twin n (sym (p.others s.node ne) ∙ s.is) p.was)

module _ (Beside : Entry → Entry → Type 0) (a b a' b' : Chained) (m n : ℕ) (x y : Entry) (p : IsNodeLess a a' m x) (q : IsNodeLess b b' n y) (back : y.twin ≡ m) where
  twins_less : AreTwins Beside a b → AreTwins Beside a' b'
  twins_less t = record { twin = each }
    where
      each : (z : ℕ) (e : Entry) → entry_at a' z ≡ Some e → (f : Entry) × (entry_at b' e.twin ≡ Some f) × (f.twin ≡ z) × Beside e f
      each z e h =
          let ne : z ≢ m = λ s. never_none (entry_at a' z) e h (ap (entry_at a') s ∙ p.gone) in
          let w = t.twin z e (sym (p.others z ne) ∙ h) in
          let stays : e.twin ≢ n = λ s. ne (sym w.2 ∙ ap (λ (v : Entry). v.twin) (same_entry (entry_at b e.twin) w.0 y w.1 (ap (entry_at b) s ∙ q.was)) ∙ back) in
          (w.0, q.others e.twin stays ∙ w.1, w.2, w.3)

pub pairs_less : (a b a' b' : Chained) (m n edge strand : ℕ) → IsNodeLess a a' m (entry edge strand n) → IsNodeLess b b' n (entry (curve_of strand) edge m) → ArePairs a b → ArePairs a' b'
pairs_less a b a' b' m n edge strand p q t = record {
  forth = twins_less IsBeside a b a' b' m n (entry edge strand n) (entry (curve_of strand) edge m) p q refl t.forth;
  back = twins_less (λ f e. IsBeside e f) b a b' a' n m (entry (curve_of strand) edge m) (entry edge strand n) q p refl t.back;
  once = once_less a a' m n edge strand p t.once;
}

pub pair_less : (a a' : Chained) (m n edge curve : ℕ) → IsNodeLess a a' m (entry edge curve n) → ((m n key item s t : ℕ) → entry_at a m ≡ Some (entry key item s) → entry_at a n ≡ Some (entry key item t) → m ≡ n) → ((k : ℕ) → chain a' k ≡ filter (λ n. not (n == m)) (chain a k)) → ((k : ℕ) → HasKey a' k → HasKey a k) → IsPairLess a a' m edge curve
pair_less a a' m n edge curve p once chains keys = record {
  was = record { node = m; twin = n; is = p.was };
  gone = gone_less a a' m n edge curve p once;
  stays = stays_less a a' m n edge curve p;
  others = others_less a a' m n edge curve p;
  chains = chains;
  keys = keys;
}

-- ---- keys alone
pub same_entries : (a a' : Chained) → a'.nodes ≡ a.nodes → (n : ℕ) → entry_at a' n ≡ entry_at a n
same_entries a a' e n = ap (λ (rs : List (ℕ × Link)). option_map (λ (l : Link). l.entry) (row_at rs n)) e

pub says_there : (a a' : Chained) (k i : ℕ) → a'.nodes ≡ a.nodes → Says a k i → Says a' k i
says_there a a' k i e s = record { node = s.node; twin = s.twin; is = same_entries a a' e s.node ∙ s.is }

pub twins_with_key : (a a' b : Chained) → a'.nodes ≡ a.nodes → ArePairs a b → ArePairs a' b
twins_with_key a a' b q t = record {
  forth = record { twin = λ n e h. t.forth.twin n e (sym (same_entries a a' q n) ∙ h) };
  back = record { twin = λ n e h. let w = t.back.twin n e h in (w.0, same_entries a a' q e.twin ∙ w.1, w.2, w.3) };
  once = λ m n k i s r h g. t.once m n k i s r (sym (same_entries a a' q m) ∙ h) (sym (same_entries a a' q n) ∙ g);
}

pub twins_with_curve : (a b b' : Chained) → b'.nodes ≡ b.nodes → ArePairs a b → ArePairs a b'
twins_with_curve a b b' q t = record {
  forth = record { twin = λ n e h. let w = t.forth.twin n e h in (w.0, same_entries b b' q e.twin ∙ w.1, w.2, w.3) };
  back = record { twin = λ n e h. t.back.twin n e (sym (same_entries b b' q n) ∙ h) };
  once = t.once;
}

-- the pair that is gone, by what the node said
pub less_at : (a a' : Chained) (m k i t l j s : ℕ) → entry_at a m ≡ Some (entry k i t) → entry_at a m ≡ Some (entry l j s) → IsPairLess a a' m k i → IsPairLess a a' m l j
less_at a a' m k i t l j s p q h =
    let e : IsSameEntry k i t l j s = one_entry (entry_at a m) k i t l j s p q in
    subst (λ x. IsPairLess a a' m x j) e.key (subst (λ x. IsPairLess a a' m k x) e.item h)
