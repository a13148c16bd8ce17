use Rattle.std.proofs.Common.{◌≡◌, Some, ap, sym, ◌∙◌, true, false}
use Rattle.std.specs.Str.{is_utf8}
use Rattle.std.proofs.lemmas.Bool.{false_from_ne_true}
use Rattle.std.proofs.lemmas.Str.{IsUtf8-from_is_utf8, is_utf8-from_IsUtf8, IsUtf8-string_bytes}
use Rattle.fluid_io.proofs.lines.read_utf8.Goals as goal

pub returns-in-Ok : goal.returns-in-Ok
returns-in-Ok c =
    let is_text : is_utf8 c.args.bytes.items ≡ true =
    ap (λ v. is_utf8 v.items) (sym c.in-Ok.ensures.ok) ∙ is_utf8-from_IsUtf8 _ (IsUtf8-string_bytes c.in-Ok.string) in
    rw is_text (ap Some (c.new.ensures ∙ ap (λ v. v.items) c.in-Ok.ensures.ok))

pub returns : goal.returns
returns c =
    let no_text : is_utf8 c.args.bytes.items ≡ false = false_from_ne_true _ (λ h. cc (c.in-Err.ensures.succeeds (IsUtf8-from_is_utf8 _ h))) in
    rw no_text
