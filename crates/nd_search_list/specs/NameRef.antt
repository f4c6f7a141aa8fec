-- A name where its bytes lie.
use Rattle.std.specs.Prelude.{ℕ, List}
use Rattle.nd_search_list.specs.Name.{lowered}
use Rattle.nd_search_list.specs.declared.name_ref.NameRef.{NameRef}

-- its bytes as they lie
abbrev pub bytes_of : NameRef → List ℕ
bytes_of name = name.bytes.now

-- the name, in small letters
abbrev pub name_of : NameRef → List ℕ
name_of name = lowered (bytes_of name)
