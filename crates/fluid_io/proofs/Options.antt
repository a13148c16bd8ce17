-- Bytes that may not be told: adding to them twice is adding to them once.
use Rattle.std.proofs.Common.{ℕ, List, ◌++◌, Option, Some, None, refl, ap, sym, ◌∙◌, append_assoc, append-nil, []}
use Rattle.std.specs.Option.{option_map}
use Rattle.fluid_io.specs.Streams.{Gives, Appends}

-- bytes that are appended twice are appended together
pub appends_both : (prefix more : List ℕ) (old mid new : Option (List ℕ)) → Appends prefix old mid → Appends more mid new → Appends (prefix ++ more) old new
appends_both prefix more None mid new first second = second ∙ ap (option_map (λ b. b ++ more)) first
appends_both prefix more (Some b) mid new first second =
    second ∙ ap (option_map (λ b. b ++ more)) first ∙ ap Some (append_assoc b prefix more)
