use Rattle.session.specs.Calls.{fits_log}
use Rattle.session.specs.Accessors.{device_of, pending_of, is_broken, log_in, generation_in_use}
use Rattle.session.proofs.AtRest.{held_from}
use Rattle.playing.specs.Going.{place}
use Rattle.playing.proofs.Going.{save_goes, save_goes_no_further}
use Rattle.playing.proofs.playable.SessionPlayable.save.Goals as goal

pub returns-in-Ok-clause-saved : goal.returns-in-Ok-clause-saved
returns-in-Ok-clause-saved g c =
    save_goes (place c.args.self.now) (place c.save.new.self) (λ honest. held_from _ _ _ (c.in-Ok.ensures.stands c.requires.whole honest) (c.in-Ok.ensures.images c.requires.whole honest))
    c.in-Ok.count c.in-Ok.ensures.answered c.in-Ok.ensures.ok.0 c.in-Ok.ensures.ok.1 c.in-Ok.ensures.ok.2 c.in-Ok.ensures.machine.0 c.in-Ok.ensures.rests

pub returns-in-Err-clause-failed : goal.returns-in-Err-clause-failed
returns-in-Err-clause-failed g c =
    let was = c.args.self.now in
    let now = c.save.new.self in
    save_goes_no_further (place was) (place now) (λ honest. held_from _ _ _ (c.in-Err.ensures.stands c.requires.whole honest) (c.in-Err.ensures.images c.requires.whole honest)) c.in-Err.why (is_broken was) (fits_log (log_in was) (pending_of was)) (generation_in_use was) c.requires.whole
    c.in-Err.ensures.answered c.in-Err.ensures.cause c.in-Err.ensures.worn c.in-Err.ensures.refused.1 c.in-Err.ensures.machine.1 (g.met.D.SectorDevice.counts_now (device_of now))
