-- The darts round both ends of an edge close up.
use Rattle.std.proofs.Common.{◌≡◌, ◌≢◌, Option, inl, inr, sym, ap, ◌∙◌, subst}
use Rattle.std.proofs.lemmas.Bool.{cases_eq}
use Rattle.slab_laws.specs.declared.names.DartId.{DartId}
use Rattle.slab_laws.specs.Sound.{IsGraphSound}
use Rattle.slab_laws.specs.View.{View, HasDart, dart_id, source_in, twin_in, next_in, target_in}
use Rattle.arr_notes.specs.Reads.{IsRelinked, IsNextSet}
use Rattle.arr_notes.specs.ViewChanges.{with_next, without_pair, redirect}
use Rattle.arr_notes.proofs.DartReads.{next_is_set}
use Rattle.arr_notes.proofs.PairReads.{names_stay}
use Rattle.arr_notes.proofs.Redirected.{one_is_redirected, relinked}
use Rattle.dcel_records.specs.Outs.{IsRest}
use Rattle.arr_notes.specs.Step.{remove_edge}
use Rattle.arr_notes.specs.AfterAround.{after_in}

-- the two darts that come in before d and before its twin m get the followers of m and of d
abbrev pub closed : View → DartId → DartId → DartId → View
closed v d in_d in_m = with_next (with_next v in_d (next_in v (twin_in v d))) in_m (next_in v d)

-- two writes make that view
pub written : (v : View) (d m in_d in_m after_d after_m : DartId) (g h : View) → m ≡ twin_in v d → after_d ≡ next_in v m → after_m ≡ next_in v d → g ≡ with_next v in_d after_d → h ≡ with_next g in_m after_m → h ≡ closed v d in_d in_m
written v d m in_d in_m after_d after_m g h tm ed em eg eh =
    let half = eg ∙ ap (λ z. with_next v in_d z) (ed ∙ ap (λ z. next_in v z) tm) in
    eh ∙ (λ i. with_next (half i) in_m (em i))

module _ (v : View) (d in_d in_m : DartId) (s : IsGraphSound v) (has : HasDart v d) (two_ends : source_in v d ≢ target_in v d) (had : HasDart v in_d) (before_d : next_in v in_d ≡ d) (ham : HasDart v in_m) (before_m : next_in v in_m ≡ twin_in v d) where
  abbrev half : View
  half = with_next v in_d (next_in v (twin_in v d))

  set : IsNextSet v half in_d (next_in v (twin_in v d))
  set = next_is_set v in_d (next_in v (twin_in v d))

  m_has : HasDart v (twin_in v d)
  m_has = s.twinned.has d has

  first : redirect v d (next_in v (twin_in v d)) ≡ half
  first = one_is_redirected v d (next_in v (twin_in v d)) in_d s.named had before_d (λ e o q. s.linked.once e in_d o had (q ∙ sym before_d))

  other : in_m ≢ in_d
  other q = s.twinned.other d has (sym before_m ∙ ap (λ z. next_in v z) q ∙ before_d)

  -- the twin doesn't follow itself: it leaves the end that it doesn't reach
  no_loop : next_in v (twin_in v d) ≢ twin_in v d
  no_loop q = two_ends (sym (sym (ap (λ z. source_in v z) q) ∙ s.linked.joins (twin_in v d) m_has ∙ ap (λ z. source_in v z) (s.twinned.back d has)))

  still : next_in half in_m ≡ twin_in v d
  still = (set.others in_m other).next ∙ before_m

  one : (e : DartId) → HasDart half e → next_in half e ≡ twin_in v d → e ≡ in_m
  one e o q =
      elim (cases_eq e.0 in_d.0) [
        | inl i ↦
            let j : next_in half in_d ≡ twin_in v d = subst (λ n. next_in half (dart_id n) ≡ twin_in v d) i q in
            absurd (no_loop (sym (set.next had) ∙ j))
        | inr n ↦
            let k = set.others e (λ i. n (ap (λ (z : DartId). z.0) i)) in
            s.linked.once e in_m (k.had o) ham (sym k.next ∙ q ∙ sym before_m)
      ]

  second : redirect half (twin_in v d) (next_in v d) ≡ closed v d in_d in_m
  second = one_is_redirected half (twin_in v d) (next_in v d) in_m ((names_stay v s.named).next in_d (next_in v (twin_in v d))) (set.relinked.has in_m ham) still one

  closed_up : without_pair (closed v d in_d in_m) d (twin_in v d) ≡ remove_edge v d (twin_in v d)
  closed_up = sym (ap (λ z. without_pair (redirect z (twin_in v d) (next_in v d)) d (twin_in v d)) first ∙ ap (λ z. without_pair z d (twin_in v d)) second)

  -- what is left without both darts is the view with one edge fewer
  pub edge_gone : (h j : View) → h ≡ closed v d in_d in_m → IsRelinked v h → j ≡ without_pair h d (twin_in h d) → j ≡ remove_edge v d (twin_in v d)
  edge_gone h j e k f = f ∙ ap (λ z. without_pair h d z) (k.twin d) ∙ ap (λ z. without_pair z d (twin_in v d)) e ∙ closed_up

-- the twin of the dart that d comes after is followed by d
pub comes_in : (v : View) (b t d : DartId) → t ≡ twin_in v b → after_in v b ≡ d → next_in v t ≡ d
comes_in v b t d e f = ap (λ z. next_in v z) e ∙ f

-- what is left at an end doesn't depend on who follows whom
module _ (g h : View) (k : IsRelinked g h) (d : DartId) where
  pub rest_kept : (o : Option DartId) → IsRest g d o → IsRest h d o
  rest_kept o r = record {
    some = λ e q. let t = r.some e q in ((k.has e t.0.0, k.source e ∙ t.0.1 ∙ sym (k.source d)), t.1);
    none = λ q e t. r.none q e (k.had e t.0, sym (k.source e) ∙ t.1 ∙ k.source d);
  }

  pub ends_kept : source_in g d ≢ target_in g d → source_in h d ≢ target_in h d
  ends_kept ne q = ne (sym (k.source d) ∙ q ∙ k.source (twin_in h d) ∙ ap (λ z. source_in g z) (k.twin d))

pub relinked_twice : (f g h : View) → IsRelinked f g → IsRelinked g h → IsRelinked f h
relinked_twice f g h a b = record {
  has = λ e o. b.has e (a.has e o);
  had = λ e o. a.had e (b.had e o);
  source = λ e. b.source e ∙ a.source e;
  twin = λ e. b.twin e ∙ a.twin e;
  line = λ e. b.line e ∙ a.line e;
  vertices = λ w. let p = a.vertices w in let q = b.vertices w in record { has = λ o. q.has (p.has o); had = λ o. p.had (q.had o); point = q.point ∙ p.point; pinned = q.pinned ∙ p.pinned };
}

-- two darts were given other followers
pub kept : (v g h : View) (a x b y : DartId) → g ≡ with_next v a x → h ≡ with_next g b y → IsRelinked v h
kept v g h a x b y e f = relinked_twice v g h (relinked v g a x e) (relinked g h b y f)
