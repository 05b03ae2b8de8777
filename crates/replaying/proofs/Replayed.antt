-- The steps of giving a machine the first inputs of a recording.
use Rattle.std.proofs.Common.{◌≡◌, ℕ, zero, suc, ◌-◌, ◌<◌, ◌≤◌, ◌^◌, min, List, [], ◌∷◌, ◌++◌, length, take, replicate, refl, sym, ap, ◌∙◌, arith, length-append}
use Rattle.std.proofs.Math.Seq.{take-nil}
use Rattle.std.proofs.lemmas.List.{take_all, take_min, take-replicate, length-replicate}
use Rattle.std.proofs.lemmas.List.Elements.{All-append, All-cons, All-nil}
use Rattle.machine.specs.Machine.{MachineState, Input, Frame, Seconds, PassesTime, after, applied}
use Rattle.input_entries.specs.Inputs.{frame, seconds}
use Rattle.input_entries.specs.declared.Entry.{Entry}
use Rattle.session.specs.Inputs.{inputs_of}
use Rattle.session.proofs.Replaying.{frames_of, seconds_back}
use Rattle.session.proofs.StandsLaws.{after_append, after_none, after_one, logged_append}
use Rattle.replaying.specs.Replayed.{HasPlayed, HasReplayed}

-- ---- lists

take_parts : (n : ℕ) (xs ys : List Entry) → take n (xs ++ ys) ≡ take n xs ++ take (n - length xs) ys
take_parts zero xs ys = sym (ap (λ k. take k ys) (let none : 0 - length xs ≡ 0 = omega arith in none))
take_parts (suc n) [] ys = let all : suc n ≡ suc n - 0 = omega arith in ap (λ k. take k ys) all
take_parts (suc n) (x ∷ xs) ys =
    let fewer : n - length xs ≡ suc n - suc (length xs) = omega arith in
    ap (λ l. x ∷ l) (take_parts n xs ys) ∙ ap (λ k. x ∷ (take n xs ++ take k ys)) fewer

-- ---- some inputs

pub played_nothing : (m : MachineState) → HasPlayed m m
played_nothing m = record { inputs = []; passes = All-nil PassesTime; is = sym (after_none m) }

pub played_seconds : (old now : MachineState) (n : ℕ) → now ≡ applied (Seconds n) old → HasPlayed old now
played_seconds old now n is = record { inputs = Seconds n ∷ []; passes = All-cons PassesTime (Seconds n) [] tt (All-nil PassesTime); is = is ∙ sym (after_one old (Seconds n)) }

pub played_then : {a b c : MachineState} → HasPlayed a b → HasPlayed b c → HasPlayed a c
played_then {a} {b} {c} first second = record {
  inputs = first.inputs ++ second.inputs;
  passes = All-append PassesTime first.inputs second.inputs first.passes second.passes;
  is = second.is ∙ ap (λ m. after m second.inputs) first.is ∙ after_append a first.inputs second.inputs;
}

-- ---- the first inputs

pub replayed_nothing : (m : MachineState) (most : ℕ) → HasReplayed m m most most []
replayed_nothing m most = record { machine_is = sym (after_none m) ∙ ap (λ l. after m (inputs_of l)) (sym (take-nil most)); left_is = omega arith }

pub replayed_then : {a b c : MachineState} {most between left : ℕ} {xs ys : List Entry} → HasReplayed a b most between xs → HasReplayed b c between left ys → HasReplayed a c most left (xs ++ ys)
replayed_then {a} {b} {c} {most} {between} {left} {xs} {ys} first second = record {
  machine_is = second.machine_is ∙ (λ i. after (first.machine_is i) (inputs_of (take (first.left_is i) ys)))
      ∙ after_append a (inputs_of (take most xs)) (inputs_of (take (most - length xs) ys))
      ∙ ap (after a) (sym (logged_append (take most xs) (take (most - length xs) ys)) ∙ ap inputs_of (sym (take_parts most xs ys)));
  left_is = omega (arith, first.left_is, second.left_is, length-append xs ys);
}

-- ---- one entry

pub replayed_frames : (m now : MachineState) (buttons times most count : ℕ) → count ≡ min times most → now ≡ after m (replicate count (Frame buttons)) → HasReplayed m now most (most - count) (replicate times (frame buttons))
replayed_frames m now buttons times most count count_is now_is =
    let all = replicate times (frame buttons) in
    let few : count ≤ times = omega arith in
    let taken : replicate count (frame buttons) ≡ take count all = sym (take-replicate count times (frame buttons) few) in
    let least : count ≡ min most (length all) = omega (arith, count_is, length-replicate times (frame buttons)) in
    let cut : take count all ≡ take most all = ap (λ k. take k all) least ∙ take_min most all in
    record {
      machine_is = now_is ∙ ap (after m) (sym (frames_of buttons count) ∙ ap inputs_of (taken ∙ cut));
      left_is = omega (arith, count_is, length-replicate times (frame buttons));
    }

pub replayed_no_seconds : (m : MachineState) (most n : ℕ) → most ≡ 0 → HasReplayed m m most 0 (seconds n ∷ [])
replayed_no_seconds m most n none = record { machine_is = sym (after_none m) ∙ ap (λ k. after m (inputs_of (take k (seconds n ∷ [])))) (sym none); left_is = omega arith }

pub replayed_seconds : (m now : MachineState) (most n : ℕ) → 1 ≤ most → n < 2 ^ 32 → now ≡ applied (Seconds n) m → HasReplayed m now most (most - 1) (seconds n ∷ [])
replayed_seconds m now most n some fits is =
    let whole : take most (seconds n ∷ []) ≡ seconds n ∷ [] = take_all most (seconds n ∷ []) (omega arith) in
    record {
      machine_is = is ∙ sym (after_one m (Seconds n)) ∙ ap (λ (i : Input). after m (i ∷ [])) (sym (seconds_back n fits)) ∙ ap (λ l. after m (inputs_of l)) (sym whole);
      left_is = refl;
    }
