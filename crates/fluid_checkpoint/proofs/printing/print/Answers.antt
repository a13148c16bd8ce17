use Rattle.std.proofs.Common.{◌≡◌, ◌++◌, IsUtf8, ap, ◌∙◌, sym, subst, append_assoc}
use Rattle.std.specs.Prelude.{string_bytes}
use Rattle.std.proofs.lemmas.Str.{IsUtf8-string_bytes}
use Rattle.fluid_checkpoint.specs.Text.{state_printed}
use Rattle.fluid_checkpoint.specs.Written.{first_part, middle_part, last_part}
use Rattle.fluid_checkpoint.proofs.Whole.{whole}
use Rattle.fluid_checkpoint.proofs.printing.print.Goals as goal

pub returns : goal.returns
returns c =
    let s = c.args.state.now in
    let text : string_bytes c.put_last.new.out ≡ state_printed s =
    c.in_ok-put_last.ensures
    ∙ ap (λ l. l ++ last_part s) c.in_ok-put_middle.ensures
    ∙ ap (λ l. (l ++ middle_part s) ++ last_part s) (c.in_ok-put_first.ensures.part ∙ ap (λ l. l ++ first_part s) c.new-out.ensures.bytes)
    ∙ append_assoc (first_part s) (middle_part s) (last_part s)
    ∙ sym (whole s) in
    record {
      text = c.new.ensures ∙ ap (λ v. v.items) c.into_bytes.ensures.value ∙ text;
      written = record { utf8 = subst IsUtf8 text (IsUtf8-string_bytes c.put_last.new.out); blobs = c.in_ok-put_first.ensures.blobs };
    }
