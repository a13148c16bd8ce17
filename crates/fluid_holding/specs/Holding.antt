-- When a container that is held is the one that a world has.
use Rattle.std.specs.Prelude.{◌≡◌, ◌≤◌, ℕ, Bool, false, List, Some, IfSome, bytes_eq}
use Rattle.std.specs.FinMap.{get}
use Rattle.sha1.specs.Sha1.{sha1}
use Rattle.fluid_types.specs.Ledger.{Ledger}
use Rattle.fluid_types.specs.declared.entries.Raw.{Raw}
use Rattle.fluid_types.specs.declared.entries.Raw.TheVariants.{Join, Leave, Submit, Report}
use Rattle.fluid_rules.specs.Past.{Client}
use Rattle.fluid_rules.specs.Rules.{client}
use Rattle.fluid_store.specs.Held.{Held}
use Rattle.fluid_loader.specs.Container.{AContainer}
use Rattle.fluid_transcript.specs.World.{Container}
use Rattle.fluid_transcript.specs.Containers.{id_of, channels, last, head}

-- what is said of a client has no later number and no later reference than these
pub record IsWithin (last number : ℕ) (said : Client) : Type 0 where
  pub last_within : said.last ≤ last
  pub reference_within : said.reference ≤ number

-- an entry that this client made, or by which it joined
abbrev pub is_made_by : List ℕ → Raw → Bool
is_made_by own (Join id scopes detail moment) = bytes_eq id own
is_made_by own (Leave id moment) = false
is_made_by own (Submit id submission moment) = bytes_eq id own
is_made_by own (Report summary found moment) = false

-- a container of this client is this one of a world, over the ledger of its document. What the rules say of the client, if it is
-- joined, is no more than what the container counts and has taken in
pub record IsContainerOf (l : Ledger) (own : List ℕ) (c : AContainer) (k : Container) : Type 0 where
  pub client_is : own ≡ id_of k
  pub number : c.number ≡ k.number
  pub channels_are : c.channels ≡ channels l k
  pub pending : c.pending ≡ k.pending
  pub last_is : c.last ≡ last l k
  pub head_is : c.head ≡ head l k
  pub known : IfSome (client l own) (IsWithin c.last c.number)

-- each object is held under its own id
abbrev pub HoldsOwn : Held → Type 0
HoldsOwn held = (id bytes : List ℕ) → get held id ≡ Some bytes → id ≡ sha1 bytes
