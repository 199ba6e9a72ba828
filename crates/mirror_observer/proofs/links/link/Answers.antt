use Rattle.std.proofs.Common.{◌≡◌, ◌∙◌}
use Rattle.arr_notes.specs.NamedRows.{put, edit}
use Rattle.arr_notes.specs.Step.{followed}
use Rattle.slab_laws.specs.declared.names.DartId.{DartId}
use Rattle.mirror_observer.specs.Tables.{darts_of, led_from, with_previous, with_follower}
use Rattle.mirror_observer.proofs.links.link.Goals as goal

pub returns : goal.returns
returns c =
    let ds = c.args.darts.now.entries in
    let v = darts_of ds in
    let d : DartId = c.args.d in
    let m : DartId = c.args.m in
    let x : c.leads-before_d.result ≡ led_from v c.args.start.place m = c.leads-before_d.ensures in
    let y : c.follows-after_m.result ≡ followed v c.args.start.place d = c.follows-after_m.ensures in
    let z : c.leads-before_m.result ≡ led_from v c.args.finish.place d = c.leads-before_m.ensures in
    let k : c.follows-after_d.result ≡ followed v c.args.finish.place m = c.follows-after_d.ensures in
    let e1 = c.in_ok-keep.ensures ∙ (λ i. put d.0 (record { source = c.args.start.vertex; twin = m; next = k i; previous = x i; line = c.args.line }) ds) in
    let e2 = c.in_ok-keep-2.ensures ∙ (λ i. put m.0 (record { source = c.args.finish.vertex; twin = d; next = y i; previous = z i; line = c.args.line }) (e1 i)) in
    let e3 = c.follow.ensures ∙ (λ i. edit (x i).0 (with_follower d) (e2 i)) in
    let e4 = c.precede.ensures ∙ (λ i. edit (y i).0 (with_previous m) (e3 i)) in
    let e5 = c.follow-2.ensures ∙ (λ i. edit (z i).0 (with_follower m) (e4 i)) in
    c.precede-2.ensures ∙ (λ i. edit (k i).0 (with_previous d) (e5 i))
