-- The limits of a command in numbers. The definitions of the wire cite them by the names that the code gives them.
use Rattle.std.specs.Prelude.{◌≡◌, ◌^◌}
use Rattle.ft_base.specs.declared.limits.TheConstants.{MAX_WORD_BYTES, MAX_WORDS, MAX_COMMAND_BYTES}

-- A word has at most 1 MiB, a command at most 65,536 words and 16 MiB.
pub record HaveNumbers : Type 0 where
  pub word_bytes : MAX_WORD_BYTES ≡ 2 ^ 20
  pub words : MAX_WORDS ≡ 2 ^ 16
  pub command_bytes : MAX_COMMAND_BYTES ≡ 2 ^ 24
