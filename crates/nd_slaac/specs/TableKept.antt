-- Only what is kept, in the code's terms: the addresses, and what they are to what happened to them.
use Rattle.std.specs.Prelude.{◌≡◌, ℕ, List, Option}
use Rattle.nd_addr.specs.declared.mac.Mac.{Mac}
use Rattle.nd_table.specs.HistoryKept as growing
use Rattle.nd_table.specs.Keyed.{at_key, Rises}
use Rattle.nd_slaac.specs.History.{Row, story}
use Rattle.nd_slaac.specs.AddressKept.{Address, address_of}

-- the link-layer address that addresses are formed of, how many solicitations a detection sends (RFC 4862, section 5.1,
-- DupAddrDetectTransmits), how many addresses there is room for, and those that are known
pub record Table : Type 0 where
  pub mac : Mac
  pub transmits : ℕ
  pub limit : ℕ
  pub addresses : List Address

abbrev pub key_of : Address → ℕ
key_of a = a.key

-- the address of this number
abbrev pub address_in : ℕ → List Address → Option Address
address_in key addresses = at_key key_of key addresses

-- The addresses are those that the history gives, each as its story says, in the order of their numbers.
pub record Stands (addresses : List Address) (history : List Row) : Type 0 where
  pub each : (key : ℕ) → address_in key addresses ≡ address_of key (story key history)
  pub order : Rises key_of addresses

-- the addresses gain rows
abbrev pub GainsRows : List Address → List Address → (List Row → List Row) → Type 0
GainsRows = growing.GainsRows Stands

-- the addresses gain a row
abbrev pub GainsRow : List Address → List Address → Row → Type 0
GainsRow = growing.GainsRow Stands
