-- Going along a boundary, and round a vertex, with each dart that is met put at the end of a list.
use Rattle.std.proofs.Common.{◌≡◌, ◌≢◌, ◌<◌, Bool, true, false, arith, refl, sym, ◌∙◌, subst, ◌⊎◌, inl, inr, List, [], ◌∷◌, ◌++◌}
use Rattle.std.proofs.lemmas.Bool.{false≢true, or_cases, or_left, or_right}
use Rattle.plane_graphs.specs.Ascending.{Member}
use Rattle.plane_graphs.proofs.Lists.{in_either, in_left, in_right}
use Rattle.slab_laws.specs.declared.names.DartId.{DartId}
use Rattle.slab_laws.specs.declared.names.VertexId.{VertexId}
use Rattle.slab_laws.specs.FaceLists.{AreOnce}
use Rattle.slab_laws.specs.FacesSound.{IsSound, lead_in}
use Rattle.slab_laws.specs.Rotation.{earlier, same_dart}
use Rattle.slab_laws.specs.Sound.{IsGraphSound, dart_in}
use Rattle.slab_laws.specs.View.{View, Faces, HasDart, IsOutOf, dart_id, next_in, source_in}
use Rattle.slab_faces.proofs.NextLemmas.{darts_exact}
use Rattle.arr_notes.specs.AfterAround.{after_in}
use Rattle.arr_notes.specs.CycleNames.{same_name}
use Rattle.arr_notes.proofs.Names.{cases_dart}
use Rattle.sound_views.proofs.NameTables.{names_exact}
use Rattle.boundary_cycles.proofs.NamedWalks.{IsWalked, begins, goes_on, fresh, smaller, more, there_more, ends, ways}
use Rattle.rotation_order.specs.RingOrder.{sooner_by}
use Rattle.rotation_order.proofs.Circuits.{left, nearer, after_out, first_met, last_met, none_between}
use Rattle.dart_walks.specs.DartWalks.{AreAlong, AreInTurn, AreRound}

-- ---- one more at the end
module _ {X : Type 0} where
  pub pushed_once : (xs : List X) (c : X) → AreOnce xs → (Member c xs → ⊥) → AreOnce (xs ++ (c ∷ []))
  pushed_once [] c o n = (λ m. m, tt)
  pushed_once (x ∷ xs) c o n = (
    λ m. elim (in_either x xs (c ∷ []) m) [ inl k ↦ o.0 k | inr k ↦ elim k [ inl e ↦ n (inl (sym e)) | inr z ↦ z ] ],
    pushed_once xs c o.1 (λ m. n (inr m)),
  )

  pub pushed_in : (x : X) (xs : List X) (c : X) → Member x (xs ++ (c ∷ [])) → Member x xs ⊎ (x ≡ c)
  pushed_in x xs c m = elim (in_either x xs (c ∷ []) m) [ inl k ↦ inl k | inr k ↦ elim k [ inl e ↦ inr e | inr z ↦ absurd z ] ]

  pub in_pushed : (x : X) (xs : List X) (c : X) → Member x xs ⊎ (x ≡ c) → Member x (xs ++ (c ∷ []))
  in_pushed x xs c (inl k) = in_left x xs (c ∷ []) k
  in_pushed x xs c (inr e) = in_right x xs (c ∷ []) (inl e)

pub in_turn_more : (next : DartId → DartId) (x : DartId) (ds : List DartId) (y : DartId) → AreInTurn next x ds y → AreInTurn next x (ds ++ (y ∷ [])) (next y)
in_turn_more next x [] y e = (sym e, refl)
in_turn_more next x (d ∷ ds) y h = (h.0, in_turn_more next (next d) ds y h.1)

-- ---- along a boundary
-- the walk from d has come to `at`; the darts that it has met are listed
pub record IsGoneAlong (v : View) (d at : DartId) (ds : List DartId) : Type 0 where
  pub passed : DartId → Bool
  pub walked : IsWalked v d at passed
  pub listed : (x : DartId) → passed x ≡ true → Member x ds
  pub met : (x : DartId) → Member x ds → passed x ≡ true
  pub once : AreOnce ds
  pub order : AreInTurn (next_in v) d ds at

module _ (v : View) (s : IsGraphSound v) (d : DartId) (D : HasDart v d) where
  pub along_begins : IsGoneAlong v d d []
  along_begins = record {
    passed = λ x. false;
    walked = begins v s d D;
    listed = λ x h. absurd (false≢true h);
    met = λ x m. absurd m;
    once = tt;
    order = refl;
  }

  module _ (at : DartId) (ds : List DartId) (w : IsGoneAlong v d at ds) where
    more_listed : (x : DartId) → more at w.passed x ≡ true → Member x (ds ++ (at ∷ []))
    more_listed x h = elim (or_cases (w.passed x) (same_name at x) h) [
      | inl t ↦ in_pushed x ds at (inl (w.listed x t))
      | inr t ↦ in_pushed x ds at (inr (sym (names_exact.path at x t)))
    ]

    more_met : (x : DartId) → Member x (ds ++ (at ∷ [])) → more at w.passed x ≡ true
    more_met x m = elim (pushed_in x ds at m) [
      | inl k ↦ or_left (w.passed x) (same_name at x) (w.met x k)
      | inr e ↦ or_right (w.passed x) (same_name at x) (subst (λ z. same_name at z ≡ true) (sym e) (names_exact.itself at))
    ]

    more_once : AreOnce (ds ++ (at ∷ []))
    more_once = pushed_once ds at w.once (λ m. false≢true (sym (fresh v s d D at w.passed w.walked) ∙ w.met at m))

    pub along_nearer : next_in v at ≢ d → ways v d (next_in v (next_in v at)) < ways v d (next_in v at)
    along_nearer ne = smaller v s d D at w.passed w.walked ne

    pub along_goes_on : next_in v at ≢ d → IsGoneAlong v d (next_in v at) (ds ++ (at ∷ []))
    along_goes_on ne = record {
      passed = more at w.passed;
      walked = goes_on v s d D at w.passed w.walked ne;
      listed = more_listed;
      met = more_met;
      once = more_once;
      order = in_turn_more (next_in v) d ds at w.order;
    }

    pub along_ends : (f : Faces) → IsSound v f → next_in v at ≡ d → AreAlong v f d (ds ++ (at ∷ []))
    along_ends f i e = record {
      darts = record {
        just = λ x. (
          λ m. (let h = there_more v s d D at w.passed w.walked x (more_met x m) in (h.0, (i.cycled.orbits x d h.0 D).1 h.1)),
          λ h. more_listed x (ends v s d D at w.passed w.walked e x h.0 ∙ same_on (lead_in v x) (lead_in v d) ((i.cycled.orbits x d h.0 D).0 h.1)),
        );
        once = more_once;
      };
      order = subst (λ z. AreInTurn (next_in v) d (ds ++ (at ∷ [])) z) e (in_turn_more (next_in v) d ds at w.order);
    }
      where
        same_on : (p q : _) → p ≡ q → same_dart p q ≡ true
        same_on p q h = subst (λ z. same_dart z q ≡ true) (sym h) (darts_exact.itself q)

-- ---- round a vertex
-- going on clockwise from d, x is come to, which isn't d; the darts that were met are listed
pub record IsGoneRound (v : View) (d x : DartId) (ds : List DartId) : Type 0 where
  pub other : x ≢ d
  pub met : (c : DartId) → IsOutOf v (source_in v d) c → (c ≡ d) ⊎ (sooner_by earlier (dart_in v d) (dart_in v c) (dart_in v x) ≡ true) → Member c ds
  pub behind : (c : DartId) → Member c ds → (c ≡ d) ⊎ (left v d x < left v d c)

-- the same, or nothing was met
pub record IsRoundSoFar (v : View) (d x : DartId) (ds : List DartId) : Type 0 where
  pub out : IsOutOf v (source_in v d) x
  pub outs : (c : DartId) → Member c ds → IsOutOf v (source_in v d) c
  pub once : AreOnce ds
  pub order : AreInTurn (after_in v) d ds x
  pub gone : ((x ≡ d) × (ds ≡ [])) ⊎ IsGoneRound v d x ds

module _ (v : View) (s : IsGraphSound v) (d : DartId) (D : HasDart v d) where
  pub round_begins : IsRoundSoFar v d d []
  round_begins = record {
    out = (D, refl);
    outs = λ c m. absurd m;
    once = tt;
    order = refl;
    gone = inl (refl, refl);
  }

  module _ (x : DartId) (ds : List DartId) (w : IsRoundSoFar v d x ds) where
    -- x wasn't met before
    new : Member x ds → ⊥
    new m = elim w.gone [
      | inl e ↦ subst (λ (zs : List DartId). Member x zs) e.1 m
      | inr g ↦ elim (g.behind x m) [ inl e ↦ g.other e | inr l ↦ absurd (omega arith) ]
    ]

    round_once : AreOnce (ds ++ (x ∷ []))
    round_once = pushed_once ds x w.once new

    round_outs : (c : DartId) → Member c (ds ++ (x ∷ [])) → IsOutOf v (source_in v d) c
    round_outs c m = elim (pushed_in c ds x m) [ inl k ↦ w.outs c k | inr e ↦ subst (IsOutOf v (source_in v d)) (sym e) w.out ]

    -- what is met before the next one has been met, or is x
    met_more : (c : DartId) → IsOutOf v (source_in v d) c → (c ≡ d) ⊎ (sooner_by earlier (dart_in v d) (dart_in v c) (dart_in v (after_in v x)) ≡ true) → Member c (ds ++ (x ∷ []))
    met_more c o h = elim w.gone [
      | inl e ↦ in_pushed c ds x (inr (elim h [
        | inl q ↦ q ∙ sym e.0
        | inr t ↦ absurd (first_met v s d D c o (subst (λ z. sooner_by earlier (dart_in v d) (dart_in v c) (dart_in v (after_in v z)) ≡ true) e.0 t))
      ]))
      | inr g ↦ elim h [
        | inl q ↦ in_pushed c ds x (inl (g.met c o (inl q)))
        | inr t ↦ elim (cases_dart c x) [
          | inl q ↦ in_pushed c ds x (inr q)
          | inr n ↦ in_pushed c ds x (inl (g.met c o (inr (none_between v s d D x w.out g.other c o n t))))
        ]
      ]
    ]

    pub round_goes_on : after_in v x ≢ d → IsRoundSoFar v d (after_in v x) (ds ++ (x ∷ []))
    round_goes_on ne = record {
      out = after_out v s d D x w.out;
      outs = round_outs;
      once = round_once;
      order = in_turn_more (after_in v) d ds x w.order;
      gone = inr (record { other = ne; met = met_more; behind = behind_more });
    }
      where
        behind_more : (c : DartId) → Member c (ds ++ (x ∷ [])) → (c ≡ d) ⊎ (left v d (after_in v x) < left v d c)
        behind_more c m = elim w.gone [
          | inl e ↦ inl (elim (pushed_in c ds x m) [
            | inl k ↦ absurd (subst (λ (zs : List DartId). Member c zs) e.1 k)
            | inr q ↦ q ∙ e.0
          ])
          | inr g ↦ (
              let l = nearer v s d D x w.out g.other in
              elim (pushed_in c ds x m) [
                | inl k ↦ elim (g.behind c k) [ inl q ↦ inl q | inr b ↦ inr (omega arith) ]
                | inr q ↦ inr (subst (λ z. left v d (after_in v x) < left v d z) (sym q) l)
              ]
              )
        ]

    pub round_ends : after_in v x ≡ d → AreRound v (source_in v d) (ds ++ (x ∷ []))
    round_ends e = record {
      darts = record { just = λ c. (round_outs c, λ o. all c o); once = round_once };
      order = (d, subst (λ z. AreInTurn (after_in v) d (ds ++ (x ∷ [])) z) e (in_turn_more (after_in v) d ds x w.order));
    }
      where
        all : (c : DartId) → IsOutOf v (source_in v d) c → Member c (ds ++ (x ∷ []))
        all c o = elim (cases_dart c d) [
          | inl q ↦ met_more c o (inl q)
          | inr n ↦ met_more c o (inr (subst (λ z. sooner_by earlier (dart_in v d) (dart_in v c) (dart_in v z) ≡ true) (sym e) (last_met v s d D c o n)))
        ]

    -- so fewer are left
    pub round_nearer : after_in v x ≢ d → left v d (after_in v (after_in v x)) < left v d (after_in v x)
    round_nearer ne = nearer v s d D (after_in v x) (after_out v s d D x w.out) ne

-- no dart leaves the vertex
pub none_round : (v : View) → IsGraphSound v → (w : VertexId) (ds : List DartId) → ds ≡ [] → ((d : DartId) → ¬ IsOutOf v w d) → AreRound v w ds
none_round v s w ds e none = subst (AreRound v w) (sym e) (record {
  darts = record { just = λ d. (λ m. absurd m, λ o. absurd (none d o)); once = tt };
  order = (dart_id 0, refl);
})
