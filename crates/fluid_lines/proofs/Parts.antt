-- Bytes that are written in two parts.
use Rattle.std.proofs.Common.{ℕ, List, [], ◌++◌, Option, Result, Ok, Err, ap, sym, ◌∙◌, append_assoc, append-nil}
use Rattle.std.specs.Result.{IsErr}
use Rattle.fluid_io.specs.declared.faults.Failed.{Failed}
use Rattle.fluid_io.specs.Streams.{Writing, Appends, AppendsPrefix, WriteAllDoes}
use Rattle.fluid_io.proofs.Options.{appends_both}

-- a prefix of the first part is one of both
pub prefix_of_first : (first second : List ℕ) (old new : Option (List ℕ)) → AppendsPrefix first old new → AppendsPrefix (first ++ second) old new
prefix_of_first first second old new h = record {
  prefix = h.prefix;
  behind = h.behind ++ second;
  splits = ap (λ b. b ++ second) h.splits ∙ append_assoc h.prefix h.behind second;
  appends = h.appends;
}

-- the first part and then a prefix of the second are a prefix of both
pub prefix_of_second : (first second : List ℕ) (old mid new : Option (List ℕ)) → Appends first old mid → AppendsPrefix second mid new → AppendsPrefix (first ++ second) old new
prefix_of_second first second old mid new done h = record {
  prefix = first ++ h.prefix;
  behind = h.behind;
  splits = ap (λ b. first ++ b) h.splits ∙ sym (append_assoc first h.prefix h.behind);
  appends = appends_both first h.prefix old mid new done h.appends;
}

-- all of it is a prefix
whole_prefix : (bytes : List ℕ) (old new : Option (List ℕ)) → Appends bytes old new → AppendsPrefix bytes old new
whole_prefix bytes old new done = record {
  prefix = bytes;
  behind = [];
  splits = sym (append-nil bytes);
  appends = done;
}

-- a write that failed behind a prefix
pub failed_write : (bytes : List ℕ) (old new : Writing) (result : Result (Unit {0}) Failed) → IsErr result → AppendsPrefix bytes old.written new.written
    → WriteAllDoes old new bytes result
failed_write bytes old new (Ok done) failed prefix = cc
failed_write bytes old new (Err fault) failed prefix = prefix

-- a write of all, and what a flush behind it answered
pub flushed_write : (bytes : List ℕ) (old new : Writing) (result : Result (Unit {0}) Failed) → Appends bytes old.written new.written → WriteAllDoes old new bytes result
flushed_write bytes old new (Ok done) all = all
flushed_write bytes old new (Err fault) all = whole_prefix bytes old.written new.written all
