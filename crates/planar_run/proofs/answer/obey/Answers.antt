use Rattle.std.proofs.Common.{[], refl, rules}
use Rattle.planar_run.proofs.Replied.{always_wanted, answered_as, mirrored_by, obeyed_by, taken_by, wanted_by}
use Rattle.planar_run.proofs.answer.obey.Goals as goal

pub returns-in-Nothing : goal.returns-in-Nothing
returns-in-Nothing g c = record { obeyed = answered_as c.args.command _ _ _ _ c.in-Nothing.is ([], tt, c.requires.empty, refl); err = tt; kept = c.requires.kept }

pub returns-in-Segment : goal.returns-in-Segment
returns-in-Segment g c = search rules

pub returns-in-Path : goal.returns-in-Path
returns-in-Path g c = record {
  obeyed = obeyed_by c.path.result c.args.command _ _ _ _ c.in-Path.is c.path.ensures.answered;
  err = taken_by c.path.result c.args.command _ _ _ c.in-Path.is c.path.ensures.err;
  kept = c.path.ensures.kept;
}

pub returns-in-Drop : goal.returns-in-Drop
returns-in-Drop g c = record {
  obeyed = obeyed_by c.drop_curve.result c.args.command _ _ _ _ c.in-Drop.is c.drop_curve.ensures.answered;
  err = taken_by c.drop_curve.result c.args.command _ _ _ c.in-Drop.is c.drop_curve.ensures.err;
  kept = c.drop_curve.ensures.kept;
}

pub returns-in-Cut : goal.returns-in-Cut
returns-in-Cut g c = record {
  obeyed = obeyed_by c.cut.result c.args.command _ _ _ _ c.in-Cut.is c.cut.ensures.answered;
  err = taken_by c.cut.result c.args.command _ _ _ c.in-Cut.is c.cut.ensures.err;
  kept = c.cut.ensures.kept;
}

pub returns-in-Pin : goal.returns-in-Pin
returns-in-Pin g c = record {
  obeyed = obeyed_by c.pin.result c.args.command _ _ _ _ c.in-Pin.is c.pin.ensures.answered;
  err = taken_by c.pin.result c.args.command _ _ _ c.in-Pin.is c.pin.ensures.err;
  kept = c.pin.ensures.kept;
}

pub returns-in-Unpin : goal.returns-in-Unpin
returns-in-Unpin g c = record { obeyed = answered_as c.args.command _ _ _ _ c.in-Unpin.is c.unpin.ensures.answered; err = tt; kept = c.unpin.ensures.kept }

pub returns-in-Split : goal.returns-in-Split
returns-in-Split g c = record {
  obeyed = obeyed_by c.split.result c.args.command _ _ _ _ c.in-Split.is c.split.ensures.answered;
  err = taken_by c.split.result c.args.command _ _ _ c.in-Split.is c.split.ensures.err;
  kept = c.split.ensures.kept;
}

pub returns-in-Merge : goal.returns-in-Merge
returns-in-Merge g c = record { obeyed = answered_as c.args.command _ _ _ _ c.in-Merge.is c.merge.ensures.answered; err = tt; kept = c.merge.ensures.kept }

pub returns-in-Clear : goal.returns-in-Clear
returns-in-Clear g c = record { obeyed = answered_as c.args.command _ _ _ _ c.in-Clear.is c.clear.ensures.answered; err = tt; kept = c.clear.ensures.kept }

pub returns-in-Locate : goal.returns-in-Locate
returns-in-Locate g c = search rules

pub returns-in-Edge : goal.returns-in-Edge
returns-in-Edge g c = record {
  obeyed = obeyed_by c.edge.result c.args.command _ _ _ _ c.in-Edge.is c.edge.ensures.answered;
  err = wanted_by c.edge.result c.args.command _ _ c.in-Edge.is c.edge.ensures.err;
  kept = c.requires.kept;
}

pub returns-in-Curve : goal.returns-in-Curve
returns-in-Curve g c = record {
  obeyed = obeyed_by c.curve.result c.args.command _ _ _ _ c.in-Curve.is c.curve.ensures.answered;
  err = wanted_by c.curve.result c.args.command _ _ c.in-Curve.is c.curve.ensures.err;
  kept = c.requires.kept;
}

pub returns-in-Show : goal.returns-in-Show
returns-in-Show g c = record {
  obeyed = obeyed_by c.show.result c.args.command _ _ _ _ c.in-Show.is c.show.ensures;
  err = always_wanted c.show.result c.args.command _ _ c.in-Show.is tt;
  kept = c.requires.kept;
}

pub returns-in-Overlay : goal.returns-in-Overlay
returns-in-Overlay g c = record {
  obeyed = obeyed_by c.overlay.result c.args.command _ _ _ _ c.in-Overlay.is c.overlay.ensures;
  err = always_wanted c.overlay.result c.args.command _ _ c.in-Overlay.is tt;
  kept = c.requires.kept;
}

pub returns-in-Region : goal.returns-in-Region
returns-in-Region g c = record {
  obeyed = obeyed_by c.region.result c.args.command _ _ _ _ c.in-Region.is c.region.ensures.answered;
  err = wanted_by c.region.result c.args.command _ _ c.in-Region.is c.region.ensures.err;
  kept = c.requires.kept;
}

pub returns-in-Vertical : goal.returns-in-Vertical
returns-in-Vertical g c = record {
  obeyed = obeyed_by c.vertical.result c.args.command _ _ _ _ c.in-Vertical.is c.vertical.ensures;
  err = always_wanted c.vertical.result c.args.command _ _ c.in-Vertical.is tt;
  kept = c.requires.kept;
}

pub returns-in-Batch : goal.returns-in-Batch
returns-in-Batch g c = rw c.batch.ensures.same (record {
  obeyed = obeyed_by c.batch.result c.args.command _ _ _ _ c.in-Batch.is c.batch.ensures.answered;
  err = always_wanted c.batch.result c.args.command _ _ c.in-Batch.is tt;
  kept = c.requires.kept;
})

pub returns-in-Envelope : goal.returns-in-Envelope
returns-in-Envelope g c = record {
  obeyed = obeyed_by c.envelope.result c.args.command _ _ _ _ c.in-Envelope.is c.envelope.ensures;
  err = always_wanted c.envelope.result c.args.command _ _ c.in-Envelope.is tt;
  kept = c.requires.kept;
}

pub returns-in-Attach : goal.returns-in-Attach
returns-in-Attach g c = record {
  obeyed = obeyed_by c.attach.result c.args.command _ _ _ _ c.in-Attach.is c.attach.ensures.answered;
  err = taken_by c.attach.result c.args.command _ _ _ c.in-Attach.is c.attach.ensures.err;
  kept = c.attach.ensures.kept;
}

pub returns-in-Leave : goal.returns-in-Leave
returns-in-Leave g c = record { obeyed = answered_as c.args.command _ _ _ _ c.in-Leave.is c.leave.ensures.answered; err = tt; kept = c.leave.ensures.kept }

pub returns-in-Mirror : goal.returns-in-Mirror
returns-in-Mirror g c = record {
  obeyed = mirrored_by c.mirror.result c.args.command _ _ _ _ c.in-Mirror.is c.mirror.ensures.obeyed;
  err = wanted_by c.mirror.result c.args.command _ _ c.in-Mirror.is c.mirror.ensures.err;
  kept = c.requires.kept;
}

pub returns-in-LayerRed : goal.returns-in-LayerRed
returns-in-LayerRed g c = record {
  obeyed = answered_as c.args.command _ _ _ _ c.in-LayerRed.is ([], tt, c.layer.ensures.told, c.layer.ensures.turned);
  err = tt;
  kept = c.layer.ensures.kept;
}

pub returns-in-LayerBlue : goal.returns-in-LayerBlue
returns-in-LayerBlue g c = record {
  obeyed = answered_as c.args.command _ _ _ _ c.in-LayerBlue.is ([], tt, c.layer-in-LayerBlue.ensures.told, c.layer-in-LayerBlue.ensures.turned);
  err = tt;
  kept = c.layer-in-LayerBlue.ensures.kept;
}
