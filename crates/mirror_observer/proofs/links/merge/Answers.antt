use Rattle.std.proofs.Common.{◌≡◌, ◌==◌, cond, ◌∙◌, ap}
use Rattle.arr_notes.specs.NamedRows.{del, each, edit}
use Rattle.slab_laws.specs.View.{twin_in, source_in, next_in}
use Rattle.slab_laws.specs.declared.names.DartId.{DartId}
use Rattle.mirror_observer.specs.Tables.{darts_of, previous_at, with_previous, with_follower, with_start, diverted}
use Rattle.mirror_observer.proofs.Rewritten.{led_first}
use Rattle.mirror_observer.proofs.links.merge.Goals as goal

pub redirect-requires : goal.redirect-requires
redirect-requires c = record { named = c.requires.named; led = led_first c.args.darts.now.entries c.requires.named c.requires.back c.twin_of-gone.result }

pub returns : goal.returns
returns c =
    let ds = c.args.darts.now.entries in
    let v = darts_of ds in
    let d : DartId = c.args.d in
    let n : DartId = c.args.n in
    let t : c.twin_of-twin.result ≡ twin_in v d = c.twin_of-twin.ensures in
    let m : c.twin_of-gone.result ≡ twin_in v n = c.twin_of-gone.ensures in
    let y : c.next_of-on.result ≡ next_in v n = c.next_of-on.ensures in
    let s : c.source_of-end.result ≡ source_in v (twin_in v n) = c.source_of-end.ensures ∙ ap (source_in v) m in
    let b : c.previous_of-before.result ≡ previous_at ds (twin_in v n) = c.previous_of-before.ensures ∙ ap (previous_at ds) m in
    let k : c.is_same-bare.result ≡ ((next_in v n).0 == (twin_in v n).0) = c.is_same-bare.ensures ∙ (λ i. (y i).0 == (m i).0) in
    let a : c.either-after_d.result ≡ cond ((next_in v n).0 == (twin_in v n).0) (twin_in v d) (next_in v n) = c.either-after_d.ensures ∙ (λ i. cond (k i) (t i) (y i)) in
    let p : c.either-before_twin.result ≡ cond ((next_in v n).0 == (twin_in v n).0) d (previous_at ds (twin_in v n)) = c.either-before_twin.ensures ∙ (λ i. cond (k i) d (b i)) in
    let e1 = c.redirect.ensures ∙ (λ i. each (λ k e. diverted (m i) (t i) e) ds) in
    let e2 = c.start_at.ensures ∙ (λ i. edit (t i).0 (with_start (s i)) (e1 i)) in
    let e3 = c.follow.ensures ∙ (λ i. edit d.0 (with_follower (a i)) (e2 i)) in
    let e4 = c.precede.ensures ∙ (λ i. edit (y i).0 (with_previous d) (e3 i)) in
    let e5 = c.precede-2.ensures ∙ (λ i. edit (t i).0 (with_previous (p i)) (e4 i)) in
    let e6 = c.forget.ensures ∙ ap (del n.0) e5 in
    c.forget-2.ensures ∙ (λ i. del (m i).0 (e6 i))
