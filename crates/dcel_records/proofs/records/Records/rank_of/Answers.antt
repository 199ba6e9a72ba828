use Rattle.std.proofs.Common.{sym, ap, ◌∙◌, option_map}
use Rattle.dcel_records.specs.RecordsView.{rank_or, rank_given}
use Rattle.dcel_records.proofs.Ranked.{rank_seen}
use Rattle.dcel_records.proofs.Relinked.{face_key}
use Rattle.dcel_records.proofs.records.Records.rank_of.Goals as goal

pub index-requires : goal.index-requires
index-requires c = face_key c.self.inside _ c.self.view_is c.args.face c.requires

pub returns : goal.returns
returns c = sym (ap (λ o. rank_or (option_map (λ r. r.rank) o)) c.index.ensures) ∙ sym (rank_seen c.self.inside.faces c.args.face) ∙ ap (λ v. rank_given v c.args.face) c.self.view_is
