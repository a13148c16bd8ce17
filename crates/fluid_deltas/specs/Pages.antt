-- Messages in pages: a list in pieces of the same length, of which only the last may be shorter.
use Rattle.std.specs.Prelude.{◌≡◌, ℕ, ◌+◌, ◌*◌, ◌<◌, ◌≤◌, List, [], ◌∷◌, ◌++◌, length, All, refl}
use Rattle.std.specs.Coded.{Coded, code_by, coded×, coded_ℕ, coded_list}
use Rattle.fluid_types.specs.declared.messages.Message.{Message}
use Rattle.fluid_types.specs.contracts.messages.Message as message
use Rattle.fluid_deltas.specs.declared.pages.TheConstants.{PAGE, PAGES}

pub record Paged : Type 0 where
  pub messages : List Message
  -- for how many more the last page has room already
  pub spare : ℕ

-- the messages of some pages, in order
abbrev pub joined : List (List Message) → List Message
joined [] = []
joined (page ∷ pages) = page ++ joined pages

-- so many full pages, and the last one behind them
pub record ArePages (full : List (List Message)) (last : List Message) : Type 0 where
  pub each : All (λ page. length page ≡ PAGE) full
  pub few : length full < PAGES
  pub short : length last ≤ PAGE

-- the places from `start` up to `end` are places of one page
pub record IsOnPage (start end : ℕ) : Type 0 where
  pub page : ℕ
  pub first : PAGE * page ≤ start
  pub last : end ≤ PAGE * page + PAGE

-- as a pair of its parts
abbrev pub paged_code : Coded Paged
paged_code =
    code_by (List Message × ℕ) (coded× (coded_list message.the_row.coded) coded_ℕ) (λ p. (p.messages, p.spare)) (λ parts. record { messages = parts.0; spare = parts.1 }) (λ _. refl)

abbrev pub page_code : Coded (List Message)
page_code = coded_list message.the_row.coded
