-- What clap knows of the command line: a command with a subcommand for each form, whose arguments are texts.
use Rattle.std.specs.Prelude.{Some, true, codes}
use Rattle.clap.specs.Words.{App, Rule, Shape, Text, new_app, new_rule, with_rule, with_subcommand}
use Rattle.clap.specs.Simple.{on_top}
use Rattle.clap.specs.declared.builder.action.ArgAction.TheVariants.{Set}

-- one text, which has to be there
abbrev pub needed : Text → Rule
needed name = record (new_rule name) { action = Some Set; required = true }

-- a form of this name with two texts
abbrev pub with_two : Text → Text → Text → App
with_two name first second = with_rule (with_rule (new_app name) (needed first)) (needed second)

-- The words begin with the form's name, and none of them asks for help.
abbrev pub bare : App
bare = on_top (λ (top : Shape). record top {
  no_binary_name = true;
  disable_help_flag = true;
  disable_version_flag = true;
  disable_help_subcommand = true;
}) (new_app (codes "rsearch"))

abbrev pub line : App
line =
    with_subcommand (with_subcommand (with_subcommand bare (new_app (codes "script")).top) (with_two (codes "load") (codes "seed") (codes "docs")).top)
    (with_two (codes "serve") (codes "port") (codes "workers")).top
