-- When a container of a script is the one that the world has.
use Rattle.std.specs.Prelude.{◌≡◌}
use Rattle.fluid_types.specs.Ledger.{Ledger}
use Rattle.fluid_store.specs.Held.{Held}
use Rattle.fluid_loader.specs.Laws.{IsBased}
use Rattle.fluid_transcript.specs.World.{Container, World}
use Rattle.fluid_transcript.specs.Sound.{ledger_in}
use Rattle.fluid_holding.specs.Holding.{IsContainerOf}
use Rattle.fluid_containers.specs.declared.holder.Holder.{Holder}

-- over the ledger of its document and what is held
pub record IsHolderIn (l : Ledger) (held : Held) (h : Holder) (k : Container) : Type 0 where
  pub document : h.document ≡ k.document
  pub container : IsContainerOf l h.client h.container k
  pub based : IsBased held h.container

-- and in a world
abbrev pub IsHolderOf : World → Holder → Container → Type 0
IsHolderOf w h k = IsHolderIn (ledger_in w k.document) w.store h k
