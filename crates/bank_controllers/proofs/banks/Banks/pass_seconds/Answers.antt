use Rattle.std.proofs.Common.{sym, ◌∙◌, refl}
use Rattle.bank_controllers.proofs.Legal.{seconds-legal, seconds_of_clock, seconds_without_clock}
use Rattle.bank_controllers.proofs.banks.Banks.pass_seconds.Goals as goal

pub restore-requires : goal.restore-requires
restore-requires c =
    let has = sym c.has_clock.ensures ∙ c.if-not-has_clock.false in
    rw (c.after_seconds.ensures, ← c.self.view_is)
    (seconds-legal c.self.inside.state.kind c.self.inside.rumble c.args.seconds c.self.inside.state has c.self.invariant.legal.state)

pub returns-then-not-has_clock-clause-passed : goal.returns-then-not-has_clock-clause-passed
returns-then-not-has_clock-clause-passed c =
    let none = sym c.has_clock.ensures ∙ c.if-not-has_clock.true in
    rw (← c.self.view_is) (sym (seconds_without_clock c.args.seconds _ none))

pub returns-clause-passed : goal.returns-clause-passed
returns-clause-passed c =
    let has = sym c.has_clock.ensures ∙ c.if-not-has_clock.false in
    rw (c.restore.ensures, c.after_seconds.ensures, ← c.self.view_is) (sym (seconds_of_clock c.args.seconds _ has))

pub returns-clause-same : goal.returns-clause-same
returns-clause-same c =
    rw (c.restore.ensures, ← c.self.view_is) (record { rom = refl; ram_length = refl; rumble = refl; kind = refl })
