-- The queue at the beginning.
use Rattle.std.proofs.Common.{◌≡◌, ℕ, ◌<◌, ◌+◌, refl, ap, sym, ◌∙◌, subst, arith, inl, inr, List, [], length, map, take, drop, get_or}
use Rattle.std.specs.Prelude.{None}
use Rattle.std.specs.BTreeSet.{insert_key}
use Rattle.std.proofs.lemmas.Bool.{cases_lt}
use Rattle.std.proofs.lemmas.List.{take-append-drop}
use Rattle.exact_plane.specs.Point.{Point, IsPoint}
use Rattle.exact_plane.specs.PointOrder.{point_cmp}
use Rattle.exact_plane.specs.Span.{Span}
use Rattle.plane_graphs.specs.Ascending.{Member}
use Rattle.plane_graphs.proofs.Ascending.{from_member}
use Rattle.plane_graphs.proofs.Lists.{in_left, in_right, in_either, in_map, of_map}
use Rattle.plane_graphs.proofs.Sorting.{member_at, any_default}
use Rattle.sweep_events.specs.Begun.{queue_of}
use Rattle.sweep_events.specs.Starts.{AreStarts}
use Rattle.sweep_events.specs.declared.places.Start.{Start}
use Rattle.sweep_events.specs.FirstQueue.{HasEnds, HasPins}
use Rattle.sweep_events.specs.Places.{nowhere, piece_at, AreSpans}
use Rattle.sweep_events.specs.Sweep.{IsSweep}
use Rattle.sweep_events.proofs.BegunPieces.{none_taken}
use Rattle.sweep_events.proofs.QueueInserts.{in_inserted, key_inserted, of_inserted}

pub ends_more : (pieces : List Span) (i : ℕ) (s : Span) (old now new : List Point) → i < length pieces → s ≡ get_or pieces i s → HasEnds pieces i old now → new ≡ insert_key point_cmp now s.upper → HasEnds pieces (i + 1) old new
ends_more pieces i s old now new h e g k = record {
  stays = λ r m. grown r (g.stays r m);
  ends = λ r t. elim (cases_lt t.place i) [
    | inl l ↦ grown r (g.ends r (record { place = t.place; within = l; is_end = t.is_end }))
    | inr l ↦ (let w = t.within in let n : t.place ≡ i = omega (arith, w, l) in at_end r (subst (λ j. r ≡ (piece_at pieces j).upper) n t.is_end))
  ];
  comes = λ r m. elim (of_inserted now s.upper r (subst (λ (xs : List Point). Member r xs) k m)) [
    | inl x ↦ inr (record { place = i; within = omega arith; is_end = x ∙ ap (λ (t : Span). t.upper) here })
    | inr o ↦ elim (g.comes r o) [ inl a ↦ inl a | inr t ↦ inr (record { place = t.place; within = (let w = t.within in omega (arith, w)); is_end = t.is_end }) ]
  ];
}
  where
    here : s ≡ piece_at pieces i
    here = e ∙ any_default pieces i s nowhere h

    grown : (r : Point) → Member r now → Member r new
    grown r m = subst (λ (xs : List Point). Member r xs) (sym k) (in_inserted now s.upper r m)

    at_end : (r : Point) → r ≡ (piece_at pieces i).upper → Member r new
    at_end r x = subst (λ (xs : List Point). Member r xs) (sym k) (subst (λ (p : Point). Member p (insert_key point_cmp now s.upper)) (sym (x ∙ ap (λ (t : Span). t.upper) (sym here))) (key_inserted now s.upper))

pub pins_more : (pins : List Point) (i : ℕ) (p : Point) (old now new : List Point) → i < length pins → p ≡ get_or pins i p → IsPoint p → HasPins pins i old now → new ≡ insert_key point_cmp now p → HasPins pins (i + 1) old new
pins_more pins i p old now new h e is g k = record {
  stays = λ r m. subst (λ (xs : List Point). Member r xs) (sym k) (in_inserted now p r (g.stays r m));
  there = λ j d l. subst (λ (xs : List Point). Member (get_or pins j d) xs) (sym k) (elim (cases_lt j i) [
    | inl m ↦ in_inserted now p (get_or pins j d) (g.there j d m)
    | inr m ↦ (let n : i ≡ j = omega (arith, l, m) in subst (λ (t : Point). Member t (insert_key point_cmp now p)) (at j n d) (key_inserted now p))
  ]);
  comes = λ r m. elim (of_inserted now p r (subst (λ (xs : List Point). Member r xs) k m)) [
    | inl x ↦ inr (subst (λ (t : Point). Member t pins) (sym (x ∙ e)) (member_at pins i p h))
    | inr n ↦ g.comes r n
  ];
  points = λ j d l. elim (cases_lt j i) [
    | inl m ↦ g.points j d m
    | inr m ↦ (let n : i ≡ j = omega (arith, l, m) in subst (λ (t : Point). IsPoint t) (at j n d) is)
  ];
}
  where
    at : (j : ℕ) → i ≡ j → (d : Point) → p ≡ get_or pins j d
    at j n d = e ∙ any_default pins i p d h ∙ ap (λ k. get_or pins k d) n

module _ (pieces : List Span) (starts : List Start) (ok : AreStarts pieces starts) where
  all_left : (t : Start) → Member t starts → Member t (drop 0 starts)
  all_left t m = elim (in_either t (take 0 starts) (drop 0 starts) (subst (λ (xs : List Start). Member t xs) (sym (take-append-drop 0 starts)) m)) [ inl a ↦ absurd (none_taken 0 starts t refl a) | inr b ↦ b ]

  begun : (pins mid keys : List Point) → AreSpans pieces → HasEnds pieces (length pieces) [] mid → HasPins pins (length pins) mid keys → IsSweep (record { pieces = pieces; pins = pins; last = None; status = [] }) (queue_of keys starts 0)
  begun pins mid keys spans g h = record {
    spans = spans;
    pinned = λ r m. let c = from_member pins r m in subst (λ (t : Point). IsPoint t) c.2 (h.points c.0 r c.1);
    last_point = tt;
    status = refl;
    queued = record {
      sound = λ r m. (
        elim (in_either r keys (map (λ (t : Start). t.lower) (drop 0 starts)) m) [
          | inl k ↦ elim (h.comes r k) [
            | inl a ↦ elim (g.comes r a) [ inl b ↦ absurd b | inr t ↦ inl (record { place = t.place; within = t.within; is_end = inr t.is_end }) ]
            | inr b ↦ inr (inl b)
          ]
          | inr k ↦ (
              let w = of_map (λ (t : Start). t.lower) r (drop 0 starts) k in
              let e = ok.sound w.0 (subst (λ (xs : List Start). Member w.0 xs) (take-append-drop 0 starts) (in_right w.0 (take 0 starts) (drop 0 starts) w.1)) in
              inl (record { place = w.0.place; within = e.0; is_end = inl (w.2 ∙ e.1) }))
        ],
        tt,
      );
      ends = λ i r n e b. elim e [
        | inl l ↦ in_right r keys (map (λ (t : Start). t.lower) (drop 0 starts)) (subst (λ (p : Point). Member p (map (λ (t : Start). t.lower) (drop 0 starts))) (sym l) (in_map (λ (t : Start). t.lower) (record { lower = (piece_at pieces i).lower; place = i }) (drop 0 starts) (all_left (record { lower = (piece_at pieces i).lower; place = i }) (ok.complete i n))))
        | inr u ↦ in_left r keys (map (λ (t : Start). t.lower) (drop 0 starts)) (h.stays r (g.ends r (record { place = i; within = n; is_end = u })))
      ];
      pins_in = λ r m b. let c = from_member pins r m in in_left r keys (map (λ (t : Start). t.lower) (drop 0 starts)) (subst (λ (t : Point). Member t keys) c.2 (h.there c.0 r c.1));
      meetings = λ i j r n m b. absurd n;
    };
  }

  pub begun_with : (ps : List Span) (pins rs : List Point) (st : List ℕ) (old mid keys : List Point) → ps ≡ pieces → rs ≡ pins → st ≡ [] → old ≡ [] → AreSpans pieces → HasEnds pieces (length pieces) old mid → HasPins pins (length pins) mid keys → IsSweep (record { pieces = ps; pins = rs; last = None; status = st }) (queue_of keys starts 0)
  begun_with ps pins rs st old mid keys a b d e spans g h =
      subst (λ (xs : List Span). IsSweep (record { pieces = xs; pins = rs; last = None; status = st }) (queue_of keys starts 0)) (sym a)
      (subst (λ (xs : List Point). IsSweep (record { pieces = pieces; pins = xs; last = None; status = st }) (queue_of keys starts 0)) (sym b)
      (subst (λ (xs : List ℕ). IsSweep (record { pieces = pieces; pins = pins; last = None; status = xs }) (queue_of keys starts 0)) (sym d)
      (begun pins mid keys spans (subst (λ (xs : List Point). HasEnds pieces (length pieces) xs mid) e g) h)))
