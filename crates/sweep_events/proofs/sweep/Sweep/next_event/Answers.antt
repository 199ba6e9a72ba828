use Rattle.std.proofs.Common.{◌≡◌, ◌+◌, ℕ, List, [], drop, refl, sym, ap, ◌∙◌, subst}
use Rattle.std.specs.List.{splice, prefix_len}
use Rattle.std.specs.Ordering.{is_le}
use Rattle.std.specs.Prelude.{Some}
use Rattle.exact_plane.specs.PointOrder.{point_cmp}
use Rattle.exact_plane.specs.Span.{Span}
use Rattle.sweep_events.specs.Begun.{queue_of, IsFirstOf, IsCutBefore}
use Rattle.sweep_events.specs.Sweep.{Swept, IsNextOf, IsOver, IsEventAt, IsCutAfter}
use Rattle.sweep_events.specs.declared.places.Start.{Start}
use Rattle.sweep_events.proofs.BegunPieces.{cut_before, more, begun_after, grown_all, none_before}
use Rattle.sweep_events.proofs.NextEvent.{next_point, waits_at, exchange_of, within, places_of, grown_sweep, passed_on, grown_of, there_of, same_status, left_falls}
use Rattle.sweep_events.proofs.Exchanged.{moved, next_is, is_over}
use Rattle.sweep_events.proofs.PieceBelow.{cut_after}
use Rattle.sweep_events.proofs.sweep.Sweep.next_event.Goals as goal

pub returns-in_default-clause-none : goal.returns-in_default-clause-none
returns-in_default-clause-none c =
    let s : Swept = record { pieces = c.self.inside.pieces.items; pins = c.self.inside.pins.items; last = c.self.inside.last; status = c.self.inside.status.items } in
    (subst (λ (u : Swept). IsOver u) c.self.view_is (is_over s (queue_of c.self.inside.queue.keys c.self.inside.starts.items c.self.inside.begun) c.self.invariant.1 (subst (λ (ss : List Start). queue_of c.self.inside.queue.keys ss c.self.inside.begun ≡ []) c.deref.ensures.value c.in_default.ensures.none)), refl)

pub exchange_at-requires-clause-point : goal.exchange_at-requires-clause-point
exchange_at-requires-clause-point c =
    let s : Swept = record { pieces = c.self.inside.pieces.items; pins = c.self.inside.pins.items; last = c.self.inside.last; status = c.self.inside.status.items } in
    let q = c.in-Some.point in
    let keys = queue_of c.self.inside.queue.keys c.self.inside.starts.items c.self.inside.begun in
    let h = c.self.invariant.1 in
    let f = subst (λ (ss : List Start). IsFirstOf q (queue_of c.self.inside.queue.keys ss c.self.inside.begun)) c.deref.ensures.value c.in-Some.ensures.some in
    let next = next_is s keys h q f.there f.first in
    next_point s keys h q next

pub exchange_at-requires-clause-waits : goal.exchange_at-requires-clause-waits
exchange_at-requires-clause-waits c =
    let s : Swept = record { pieces = c.self.inside.pieces.items; pins = c.self.inside.pins.items; last = c.self.inside.last; status = c.self.inside.status.items } in
    let q = c.in-Some.point in
    let keys = queue_of c.self.inside.queue.keys c.self.inside.starts.items c.self.inside.begun in
    let h = c.self.invariant.1 in
    let f = subst (λ (ss : List Start). IsFirstOf q (queue_of c.self.inside.queue.keys ss c.self.inside.begun)) c.deref.ensures.value c.in-Some.ensures.some in
    let next = next_is s keys h q f.there f.first in
    waits_at s keys h q next c.deref-2.result.now c.deref-4.result.now c.deref-2.ensures.value c.deref-4.ensures.value

pub exchange_at-requires-clause-begun : goal.exchange_at-requires-clause-begun
exchange_at-requires-clause-begun c =
    let s : Swept = record { pieces = c.self.inside.pieces.items; pins = c.self.inside.pins.items; last = c.self.inside.last; status = c.self.inside.status.items } in
    let q = c.in-Some.point in
    let keys = queue_of c.self.inside.queue.keys c.self.inside.starts.items c.self.inside.begun in
    let h = c.self.invariant.1 in
    let f = subst (λ (ss : List Start). IsFirstOf q (queue_of c.self.inside.queue.keys ss c.self.inside.begun)) c.deref.ensures.value c.in-Some.ensures.some in
    let next = next_is s keys h q f.there f.first in
    subst (λ (ss : List Start). IsCutBefore ss q c.self.inside.begun) (sym c.deref-3.ensures.value) (cut_before s c.self.inside.starts.items c.self.invariant.0.0 c.self.inside.queue.keys c.self.inside.begun h c.self.invariant.0.1 q next)

pub pass-requires : goal.pass-requires
pass-requires c =
    let s : Swept = record { pieces = c.self.inside.pieces.items; pins = c.self.inside.pins.items; last = c.self.inside.last; status = c.self.inside.status.items } in
    let q = c.in-Some.point in
    let keys = queue_of c.self.inside.queue.keys c.self.inside.starts.items c.self.inside.begun in
    let h = c.self.invariant.1 in
    let f = subst (λ (ss : List Start). IsFirstOf q (queue_of c.self.inside.queue.keys ss c.self.inside.begun)) c.deref.ensures.value c.in-Some.ensures.some in
    let next = next_is s keys h q f.there f.first in
    let x = c.in_ok-exchange.exchange in
    let run = c.deref-7.result.now in
    let later = c.await_seams.new.queue.keys in
    let grown = grown_of s c.deref-5.result.now c.deref-6.result.now x.low x.high run c.deref-5.ensures.value c.deref-6.ensures.value q x.low x.top c.self.inside.queue.keys later c.await_seams.ensures.grown in
    none_before s c.self.inside.starts.items c.self.invariant.0.0 c.self.inside.queue.keys c.self.inside.begun h c.self.invariant.0.1 q next _ later later grown

pub await_seams-requires-clause-places : goal.await_seams-requires-clause-places
await_seams-requires-clause-places c =
    let s : Swept = record { pieces = c.self.inside.pieces.items; pins = c.self.inside.pins.items; last = c.self.inside.last; status = c.self.inside.status.items } in
    let q = c.in-Some.point in
    let keys = queue_of c.self.inside.queue.keys c.self.inside.starts.items c.self.inside.begun in
    let h = c.self.invariant.1 in
    let f = subst (λ (ss : List Start). IsFirstOf q (queue_of c.self.inside.queue.keys ss c.self.inside.begun)) c.deref.ensures.value c.in-Some.ensures.some in
    let next = next_is s keys h q f.there f.first in
    let x = c.in_ok-exchange.exchange in
    let run = c.deref-7.result.now in
    let after = splice s.status x.low x.high run in
    let t = exchange_of s q c.deref-2.result.now c.deref-4.result.now x.low x.high x.top c.exchange_at.new.run.items run c.deref-2.ensures.value c.deref-4.ensures.value c.deref-7.ensures.value c.in_ok-exchange.ensures.exchange in
    places_of s after c.deref-5.result.now c.deref-6.result.now x.low x.high run c.deref-5.ensures.value c.deref-6.ensures.value refl (within s keys h q next after x.low x.top t)

pub invariant_of-self : goal.invariant_of-self
invariant_of-self c = c.self.invariant

pub invariant_of-self-in_err-await_seams : goal.invariant_of-self-in_err-await_seams
invariant_of-self-in_err-await_seams c =
    let s : Swept = record { pieces = c.self.inside.pieces.items; pins = c.self.inside.pins.items; last = c.self.inside.last; status = c.self.inside.status.items } in
    let q = c.in-Some.point in
    let keys = queue_of c.self.inside.queue.keys c.self.inside.starts.items c.self.inside.begun in
    let h = c.self.invariant.1 in
    let f = subst (λ (ss : List Start). IsFirstOf q (queue_of c.self.inside.queue.keys ss c.self.inside.begun)) c.deref.ensures.value c.in-Some.ensures.some in
    let next = next_is s keys h q f.there f.first in
    let x = c.in_ok-exchange.exchange in
    let run = c.deref-7.result.now in
    let after = splice s.status x.low x.high run in
    let t = exchange_of s q c.deref-2.result.now c.deref-4.result.now x.low x.high x.top c.exchange_at.new.run.items run c.deref-2.ensures.value c.deref-4.ensures.value c.deref-7.ensures.value c.in_ok-exchange.ensures.exchange in
    let later = c.await_seams.new.queue.keys in
    let grown = grown_of s c.deref-5.result.now c.deref-6.result.now x.low x.high run c.deref-5.ensures.value c.deref-6.ensures.value q x.low x.top c.self.inside.queue.keys later c.await_seams.ensures.grown in
    let all = grown_all s c.self.inside.starts.items c.self.invariant.0.0 c.self.inside.queue.keys c.self.inside.begun h c.self.invariant.0.1 q next _ later later grown in
    (c.self.invariant.0, grown_sweep s keys h q next after x.low x.top t (queue_of later c.self.inside.starts.items c.self.inside.begun) all)

pub invariant_of-self-in_err-replace : goal.invariant_of-self-in_err-replace
invariant_of-self-in_err-replace c =
    let s : Swept = record { pieces = c.self.inside.pieces.items; pins = c.self.inside.pins.items; last = c.self.inside.last; status = c.self.inside.status.items } in
    let q = c.in-Some.point in
    let keys = queue_of c.self.inside.queue.keys c.self.inside.starts.items c.self.inside.begun in
    let h = c.self.invariant.1 in
    let f = subst (λ (ss : List Start). IsFirstOf q (queue_of c.self.inside.queue.keys ss c.self.inside.begun)) c.deref.ensures.value c.in-Some.ensures.some in
    let next = next_is s keys h q f.there f.first in
    let x = c.in_ok-exchange.exchange in
    let run = c.deref-7.result.now in
    let after = splice s.status x.low x.high run in
    let t = exchange_of s q c.deref-2.result.now c.deref-4.result.now x.low x.high x.top c.exchange_at.new.run.items run c.deref-2.ensures.value c.deref-4.ensures.value c.deref-7.ensures.value c.in_ok-exchange.ensures.exchange in
    let later = c.await_seams.new.queue.keys in
    let grown = grown_of s c.deref-5.result.now c.deref-6.result.now x.low x.high run c.deref-5.ensures.value c.deref-6.ensures.value q x.low x.top c.self.inside.queue.keys later c.await_seams.ensures.grown in
    let all = grown_all s c.self.inside.starts.items c.self.invariant.0.0 c.self.inside.queue.keys c.self.inside.begun h c.self.invariant.0.1 q next _ later later grown in (
      (c.self.invariant.0.0, c.self.invariant.0.1, subst (λ (ys : List ℕ). IsCutAfter s.pieces s.last ys c.self.inside.below) (sym c.in_err-replace.ensures.err) c.self.invariant.0.2),
      same_status s (queue_of later c.self.inside.starts.items c.self.inside.begun) c.replace.new.status.items c.in_err-replace.ensures.err (grown_sweep s keys h q next after x.low x.top t (queue_of later c.self.inside.starts.items c.self.inside.begun) all),
    )

pub invariant_of-self-2 : goal.invariant_of-self-2
invariant_of-self-2 c =
    let s : Swept = record { pieces = c.self.inside.pieces.items; pins = c.self.inside.pins.items; last = c.self.inside.last; status = c.self.inside.status.items } in
    let q = c.in-Some.point in
    let keys = queue_of c.self.inside.queue.keys c.self.inside.starts.items c.self.inside.begun in
    let h = c.self.invariant.1 in
    let f = subst (λ (ss : List Start). IsFirstOf q (queue_of c.self.inside.queue.keys ss c.self.inside.begun)) c.deref.ensures.value c.in-Some.ensures.some in
    let next = next_is s keys h q f.there f.first in
    let x = c.in_ok-exchange.exchange in
    let run = c.deref-7.result.now in
    let after = splice s.status x.low x.high run in
    let t = exchange_of s q c.deref-2.result.now c.deref-4.result.now x.low x.high x.top c.exchange_at.new.run.items run c.deref-2.ensures.value c.deref-4.ensures.value c.deref-7.ensures.value c.in_ok-exchange.ensures.exchange in
    let later = c.await_seams.new.queue.keys in
    let grown = grown_of s c.deref-5.result.now c.deref-6.result.now x.low x.high run c.deref-5.ensures.value c.deref-6.ensures.value q x.low x.top c.self.inside.queue.keys later c.await_seams.ensures.grown in
    let there = there_of s c.deref-5.result.now c.deref-6.result.now x.low x.high run c.deref-5.ensures.value c.deref-6.ensures.value q in
    let is_after = c.in_ok-replace.ensures.ok ∙ ap (λ (rs : List ℕ). splice s.status x.low x.high rs) (c.deref-8.ensures.value ∙ sym c.deref-7.ensures.value) in
    let starts = c.self.inside.starts.items in
    let ok = c.self.invariant.0.0 in
    let n = c.self.inside.begun in
    let m = c.count_begun-self-inside.result in
    let came : m ≡ n + more s starts ok c.self.inside.queue.keys n h c.self.invariant.0.1 q next = c.count_begun-self-inside.ensures ∙ ap (λ (ss : List Start). n + prefix_len (λ (u : Start). is_le (point_cmp u.lower q)) (drop n ss)) c.deref-9.ensures.value in (
      (ok, begun_after s starts ok c.self.inside.queue.keys n h c.self.invariant.0.1 q next m came, subst (λ (ys : List ℕ). IsCutAfter s.pieces (Some q) ys x.low) (sym is_after) (cut_after s.pieces h.spans q s.status after x.low x.top t)),
      same_status (moved s q after) (queue_of c.pass.new.queue.keys starts m) c.replace.new.status.items is_after
          (passed_on s keys h q next after x.low x.top t starts ok c.self.inside.queue.keys n refl c.self.invariant.0.1 later c.pass.new.queue.keys grown c.pass.ensures (there x.low later c.in_ok-await_seams.ensures.first) (there x.top later c.in_ok-await_seams.ensures.second) m came),
    )

pub returns-clause-next : goal.returns-clause-next
returns-clause-next c =
    let s : Swept = record { pieces = c.self.inside.pieces.items; pins = c.self.inside.pins.items; last = c.self.inside.last; status = c.self.inside.status.items } in
    let q = c.in-Some.point in
    let keys = queue_of c.self.inside.queue.keys c.self.inside.starts.items c.self.inside.begun in
    let h = c.self.invariant.1 in
    let f = subst (λ (ss : List Start). IsFirstOf q (queue_of c.self.inside.queue.keys ss c.self.inside.begun)) c.deref.ensures.value c.in-Some.ensures.some in
    let next = next_is s keys h q f.there f.first in
    let x = c.in_ok-exchange.exchange in (
      subst (λ (u : Swept). IsNextOf u q) c.self.view_is next,
      subst (λ (ps : List Span). IsEventAt ps q x.ends x.starts x.passes) (c.deref-2.ensures.value ∙ ap (λ (u : Swept). u.pieces) c.self.view_is) c.in_ok-exchange.ensures.event,
    )

pub returns-clause-falls : goal.returns-clause-falls
returns-clause-falls c =
    let s : Swept = record { pieces = c.self.inside.pieces.items; pins = c.self.inside.pins.items; last = c.self.inside.last; status = c.self.inside.status.items } in
    let q = c.in-Some.point in
    let keys = queue_of c.self.inside.queue.keys c.self.inside.starts.items c.self.inside.begun in
    let h = c.self.invariant.1 in
    let f = subst (λ (ss : List Start). IsFirstOf q (queue_of c.self.inside.queue.keys ss c.self.inside.begun)) c.deref.ensures.value c.in-Some.ensures.some in
    let next = next_is s keys h q f.there f.first in
    left_falls s c.args.self.now keys h c.self.view_is q next _ refl refl refl
