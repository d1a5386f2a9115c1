-- Texts that stand in place where they are short.
use Rattle.std.specs.Prelude.{◌≤◌, List, ℕ, take}
use Rattle.std.specs.Str.{IsUtf8}
use Rattle.std.specs.String.{string_bytes}
use Rattle.adfs_base.specs.declared.short_text.ShortText.{ShortText}
use Rattle.adfs_base.specs.declared.short_text.ShortText.TheVariants as held
use Rattle.adfs_base.specs.declared.short_text.TheConstants.{SHORT}

-- its bytes
abbrev pub bytes_of : ShortText → List ℕ
bytes_of (held.InPlace bytes length) = take length bytes
bytes_of (held.Away text) = string_bytes text.value

-- bytes that stand in place fit there, and are UTF-8
abbrev pub IsText : ShortText → Type 0
IsText (held.InPlace bytes length) = (length ≤ SHORT) × IsUtf8 (take length bytes)
IsText (held.Away text) = Unit {0}
