use Rattle.std.proofs.Common.{◌≡◌, ◌∙◌, ◌+◌, ◌-◌, ◌++◌, ◌%◌, List, ℕ, ap, refl, length, arith}
use Rattle.std.specs.Prelude.{codes}
use Rattle.exact_text.specs.Hex.{byte_text, word_text}
use Rattle.machine_lines.proofs.Bytes.{byte_adds, byte_told, bytes_told}
use Rattle.machine_lines.specs.Texts.{bytes_from}
use Rattle.machine_lines.proofs.memory.line.Goals as goal

pub loop-i-preserved : goal.loop-i-preserved
loop-i-preserved c =
    let m = c.args.machine.now in
    let bytes : c.push_str-in-loop-i-2.new.self.bytes ≡ (c.loop-i.text.bytes ++ codes " ") ++ byte_text c.peek.result =
    c.push_str-in-loop-i-2.ensures.bytes ∙ ap (λ (t : List ℕ). t ++ c.as_str-in-loop-i.result.now) c.push_str-in-loop-i.ensures.bytes
    ∙ ap (λ (t : List ℕ). (c.loop-i.text.bytes ++ codes " ") ++ t) (c.as_str-in-loop-i.ensures.value ∙ c.byte_digits.ensures.digits) in
    let grown : length c.push_str-in-loop-i-2.new.self.bytes ≡ length c.loop-i.text.bytes + 3 = ap length bytes ∙ byte_adds c.loop-i.text.bytes c.peek.result in
    record {
      text = ap (λ (t : List ℕ). t ++ bytes_from m ((c.loop-i.place + 1) % 65536) (c.args.count - (c.loop-i._i + 1))) bytes
          ∙ byte_told m c.args.count c.loop-i._i c.loop-i.place _ c.peek.result c.loop-i.text.bytes _ c.loop-i-test.true (omega arith) refl c.peek.ensures c.loop-i.invariant.text;
      length = omega (arith, grown, c.loop-i.invariant.length);
    }

pub loop-i-init : goal.loop-i-init
loop-i-init c =
    let whole : c.push_str.new.self.bytes ≡ word_text c.args.address =
    c.push_str.ensures.bytes ∙ ap (λ (t : List ℕ). t ++ c.as_str.result.now) c.new-text.ensures ∙ c.as_str.ensures.value ∙ c.word_digits.ensures.digits in
    let all : c.args.count - 0 ≡ c.args.count = omega arith in
    record {
      text = ap (λ (t : List ℕ). t ++ bytes_from c.args.machine.now c.args.address (c.args.count - 0)) whole ∙ ap (λ (n : ℕ). word_text c.args.address ++ bytes_from c.args.machine.now c.args.address n) all;
      length = ap length whole;
    }

pub returns : goal.returns
returns c =
    c.push_str-2.ensures.bytes
    ∙ bytes_told c.args.machine.now c.args.count c.loop-i._i c.loop-i.place c.args.address c.loop-i.text.bytes c.loop-i-test.false c.loop-i.invariant.text
