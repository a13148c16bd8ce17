-- How far a write of many pieces has come.
use Rattle.std.proofs.Common.{◌≡◌, ℕ, List, [], ◌++◌, take, drop, refl, ap, sym, ◌∙◌, append_assoc}
use Rattle.std.proofs.lemmas.List.{take-append-drop}
use Rattle.fluid_io.specs.Streams.{Writing, Appends, AppendsPrefix, WritesBytes}
use Rattle.fluid_io.proofs.Options.{appends_both}

-- all of the bytes but the rest were written
pub record IsWritten (bytes rest : List ℕ) (old new : Writing) : Type 0 where
  pub quiet : new.faults ≡ old.faults
  pub prefix : List ℕ
  pub splits : bytes ≡ prefix ++ rest
  pub appends : Appends prefix old.written new.written

pub more_written : (bytes rest : List ℕ) (count : ℕ) (old mid new : Writing) → IsWritten bytes rest old mid → WritesBytes mid new rest count → new.faults ≡ mid.faults → IsWritten bytes (drop count rest) old new
more_written bytes rest count old mid new before now quiet = record {
  quiet = quiet ∙ before.quiet;
  prefix = before.prefix ++ take count rest;
  splits = before.splits ∙ ap (λ r. before.prefix ++ r) (sym (take-append-drop count rest)) ∙ sym (append_assoc before.prefix (take count rest) (drop count rest));
  appends = appends_both before.prefix (take count rest) old.written mid.written new.written before.appends now.appends;
}
