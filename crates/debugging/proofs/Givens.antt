-- The next line of an input, with the bytes that it asks for.
use Rattle.std.proofs.Common.{◌≡◌, ◌≢◌, inl, inr, ℕ, zero, suc, ◌<◌, false, List, [], ◌++◌, length, Option, None, Some, refl, sym, ap, ◌∙◌, arith, length-append}
use Rattle.std.specs.Prelude.{nat_le}
use Rattle.std.proofs.KnownBytes.{Consumes-nil}
use Rattle.std.proofs.lemmas.Bool.{lt-leb}
use Rattle.input_lines.specs.Newlines.{HasNoNewline}
use Rattle.input_lines.specs.Reading.{TakesLine}
use Rattle.input_lines.specs.Given.{TakesGiven}
use Rattle.input_lines.proofs.Givings.{takes_given, ends_within, unfinished}
use Rattle.debugging.specs.Orders.{asked, asked_by, restore_of}
use Rattle.debugging.specs.NextGiven.{IsNextGiven, given_by}
use Rattle.machine_lines.specs.Taking.{HasTakenState}
use Rattle.machine_lines.specs.declared.taking.TakenState.{TakenState}
use Rattle.machine_lines.specs.declared.taking.TakenState.TheVariants.{Snapshot, Other, Nothing, End as FewerTaken, Failed as TakeFailed}
use Rattle.state_header.specs.States.{header_of}
use Rattle.state_header.proofs.States.{header_long, another_illegal}

-- a line of more than 512 bytes is no `restore`
pub long_asks_none : (line : List ℕ) → 512 < length line → restore_of line ≡ None
long_asks_none line long = let test : nat_le (length line) 512 ≡ false = lt-leb (length line) 512 long in rw test refl

by_none : (line : List ℕ) → restore_of line ≡ None → asked line ≡ 0
by_none line none = rw none refl

pub nonzero : (n : ℕ) → (n ≡ 0 → ⊥) → 0 < n
nonzero zero never = absurd (never refl)
nonzero (suc n) never = omega arith

-- a line that asks for some bytes is `restore`
asks_some_of : (o : Option ℕ) (size : ℕ) → size ≡ asked_by o → 0 < size → o ≡ Some size
asks_some_of None size is some = absurd (omega (arith, is, some))
asks_some_of (Some n) size is some = ap Some (sym is)

pub asks_some : (line : List ℕ) (size : ℕ) → size ≡ asked line → 0 < size → restore_of line ≡ Some size
asks_some line size is some = asks_some_of (restore_of line) size is some

pub takes_plain : (line : List ℕ) (old new : Option (List ℕ)) → restore_of line ≡ None → HasNoNewline line → TakesLine line old new → TakesGiven asked (record { line = line; bytes = [] }) old new
takes_plain line old new none one took = takes_given asked line [] old new new one (sym (by_none line none)) took (Consumes-nil new)

-- bytes behind a line that asks for them
module _ (line : List ℕ) (size : ℕ) (old mid : Option (List ℕ)) (asks : restore_of line ≡ Some size) (one : HasNoNewline line) (took_line : TakesLine line old mid) where
  by_some : asked line ≡ size
  by_some = rw asks refl

  pub next_asked : (taken : TakenState) (rom snapshot : List ℕ) (new since : Option (List ℕ)) → HasTakenState taken rom size snapshot mid new since → IsNextGiven (given_by taken) rom snapshot old new since
  next_asked Snapshot rom snapshot new since (is, took) =
      let all : length (header_of rom ++ snapshot) ≡ size = omega (arith, is, length-append (header_of rom) snapshot, header_long rom) in
      (line, asks ∙ ap Some (sym all), takes_given asked line (header_of rom ++ snapshot) old mid new one (all ∙ sym by_some) took_line took)
  next_asked Other rom snapshot new since all = (
    record { line = line; bytes = all.bytes },
    inr (size, asks, inr (another_illegal rom all.bytes all.are)),
    takes_given asked line all.bytes old mid new one (all.long ∙ sym by_some) took_line all.took,
  )
  next_asked Nothing rom snapshot new since all =
      (record { line = line; bytes = all.bytes }, inr (size, asks, inr all.are.0), takes_given asked line all.bytes old mid new one (all.long ∙ sym by_some) took_line all.took)
  next_asked FewerTaken rom snapshot new since (short, is_end) =
      let few : length short.bytes ≢ size = λ e. absurd (omega (arith, e, short.few)) in (
        record { line = line; bytes = short.bytes },
        inr (size, asks, inl few),
        ends_within asked line short.bytes old mid since one (omega (arith, by_some, short.few)) took_line short.took is_end,
      )
  next_asked TakeFailed rom snapshot new since short = unfinished asked line short.bytes old mid since one (omega (arith, by_some, short.few)) took_line short.took
