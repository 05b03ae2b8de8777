use Rattle.std.proofs.Common.{◌≡◌, ◌∙◌, Some}
use Rattle.std.specs.Str.Parse.{ExplainsUnsignedError, HasUnsignedDigitsIfOk, ParsesUnsigned}
use Rattle.clap.specs.Words.{one_text, found_of, without_minus}
use Rattle.clap.proofs.WalkLemmas.{one_text-rows}
use Rattle.command_line.proofs.Getters.{no_text, number_is}
use Rattle.command_line.proofs.optional_number.Goals as goal

pub returns : goal.returns
returns c = record {
  none = λ left_out. c.get_one.ensures.none (one_text-rows (found_of c.args.values.now) c.args.id.now ∙ no_text c.args.id.now _ left_out);
  some = λ least most given small passes.
      let text : one_text (found_of c.args.values.now) c.args.id.now ≡ Some (without_minus given) = one_text-rows (found_of c.args.values.now) c.args.id.now ∙ passes.0 in
      number_is _ (λ bs r. ParsesUnsigned 32 10 bs r × ExplainsUnsignedError 10 bs r × HasUnsignedDigitsIfOk bs r) least most given c.get_one.result (c.get_one.ensures.value (without_minus given) text) (λ u x gives. gives.0) small passes.1;
}
