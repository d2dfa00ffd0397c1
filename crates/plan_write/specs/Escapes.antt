-- The bytes of escapes.
use Rattle.std.specs.Prelude.{ℕ, List}
use Rattle.plan_write.specs.declared.json_strings.Escape.{Escape}
use Rattle.plan_write.specs.declared.json_strings.Escape.TheVariants.{Plain, Short, Unicode}

-- the bytes of an escape (RFC 8259, section 7), or the byte itself
abbrev pub escape_bytes : Escape → List ℕ
escape_bytes (Plain bytes) = bytes
escape_bytes (Short bytes) = bytes
escape_bytes (Unicode bytes) = bytes
