-- A keeper that is kept stays so behind a checkpoint that was stored.
use Rattle.std.proofs.Common.{ℕ, arith, Bool, List, [], length, inl, sym, ap, append-nil}
use Rattle.std.proofs.lemmas.List.{length-map}
use Rattle.std.proofs.lemmas.List.Elements.{All-push}
use Rattle.fluid_types.specs.Printed.{message_printed}
use Rattle.fluid_types.specs.Ledger.{Ledger, order, seq}
use Rattle.fluid_log.specs.Keeping.{Content}
use Rattle.fluid_log.specs.Calls.{add_checkpoint}
use Rattle.fluid_deltas.specs.Flushes.{AreAll}
use Rattle.fluid_document.specs.Entries.{entries_of}
use Rattle.fluid_document.specs.Kept.{IsCheckpointOf, IsPrinted, IsKept}

-- a checkpoint of a ledger whose messages are all among the deltas
whole_checkpoint : (l : Ledger) (c : Content) (text : List ℕ) → IsPrinted (entries_of l) text → AreAll (order l) c → IsCheckpointOf l (length c.deltas) text
unfolding seq
whole_checkpoint l c text is all = record {
  before = l;
  behind = [];
  splits = sym (append-nil l);
  text = inl is;
  reached = omega (arith, ap length all, length-map (order l) message_printed);
}

pub kept_stored : (owed : Bool) (l : Ledger) (c : Content) (text : List ℕ) → IsPrinted (entries_of l) text → AreAll (order l) c → IsKept owed l c → IsKept owed l (add_checkpoint text c)
kept_stored owed l c text is all kept = record {
  legal = kept.legal;
  few = kept.few;
  loggable = kept.loggable;
  log = kept.log;
  deltas = kept.deltas;
  checkpoints = All-push (IsCheckpointOf l (length c.deltas)) c.checkpoints text kept.checkpoints (whole_checkpoint l c text is all);
}
