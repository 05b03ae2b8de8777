use Rattle.picture_unit.proofs.Quiet.{stays_on, stays_on_skipped}
use Rattle.picture_unit.proofs.LatePictures.{up_to_drawing, up_to_next_line, line_passed}
use Rattle.picture_unit.proofs.picture.Picture.pass_line.Goals as goal

pub skip-requests-requires-clause-quiet : goal.skip-requests-requires-clause-quiet
skip-requests-requires-clause-quiet c = up_to_drawing c.args.self.now.state c.requires.first c.requires.visible

pub run_cycle-requests-requires : goal.run_cycle-requests-requires
run_cycle-requests-requires c = stays_on_skipped 19 _ _ c.requires.on c.skip-requests.ensures

pub skip-requests-requires-2-clause-on : goal.skip-requests-requires-2-clause-on
skip-requests-requires-2-clause-on c = stays_on _ _ (stays_on_skipped 19 _ _ c.requires.on c.skip-requests.ensures) c.run_cycle-requests.ensures

pub skip-requests-requires-2-clause-quiet : goal.skip-requests-requires-2-clause-quiet
skip-requests-requires-2-clause-quiet c = up_to_next_line _ _ _ c.requires.on c.requires.no_mode c.requires.first c.skip-requests.ensures c.run_cycle-requests.ensures

pub run_cycle-requires : goal.run_cycle-requires
run_cycle-requires c =
    stays_on_skipped 93 _ _ (stays_on _ _ (stays_on_skipped 19 _ _ c.requires.on c.skip-requests.ensures) c.run_cycle-requests.ensures) c.skip-requests-2.ensures

pub returns-clause-on : goal.returns-clause-on
returns-clause-on c =
    stays_on _ _ (stays_on_skipped 93 _ _ (stays_on _ _ (stays_on_skipped 19 _ _ c.requires.on c.skip-requests.ensures) c.run_cycle-requests.ensures) c.skip-requests-2.ensures) c.run_cycle.ensures

pub returns-clause-ticks : goal.returns-clause-ticks
returns-clause-ticks c =
    line_passed _ _ _ _ _ c.requires.on c.requires.no_mode c.requires.first c.requires.visible c.skip-requests.ensures c.run_cycle-requests.ensures c.skip-requests-2.ensures c.run_cycle.ensures
