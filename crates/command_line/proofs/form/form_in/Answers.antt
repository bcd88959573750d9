use Rattle.std.proofs.Common.{◌≡◌, ℕ, true, false, List, [], Option, Some, None, option_map, codes, refl, ap, ◌∙◌}
use Rattle.std.specs.Str.{bytes_eq}
use Rattle.std.specs.declared.alloc.Global.{Global}
use Rattle.std.specs.declared.string.String.{String}
use Rattle.clap.specs.Words.{Row, Text, first_of}
use Rattle.clap.specs.declared.parser.matches.ArgMatches.TheViews.{out-ArgMatches}
use Rattle.command_line.specs.Forms.{AreForm, IsLoad, IsServe}
use Rattle.command_line.specs.declared.form.Form.{Form}
use Rattle.command_line.specs.declared.form.Form.TheVariants as form
use Rattle.command_line.proofs.LineLaws.{found, name_of, rows_for, two_rows}
use Rattle.command_line.proofs.TextLaws.{name_found}
use Rattle.command_line.proofs.form.form_in.Goals as goal

other_name : (name given plain : Text) → Some name ≡ Some given → true ≡ bytes_eq name plain → bytes_eq given plain ≡ false → ⊥
other_name name given plain named test other =
    let same : name ≡ given = cc in
    absurd (let bad : true ≡ false = test ∙ ap (λ (text : Text). bytes_eq text plain) same ∙ other in cc)

same_rows : (rows given : List Row) → Some rows ≡ Some given → rows ≡ given
same_rows rows given is = cc

module _ (words : List (String Global)) (name : Text) (rows : List Row) (read : Option Form) where
  script_read : (asked : Form) → AreForm words asked → Some name ≡ Some (name_of asked) → true ≡ bytes_eq name (codes "script")
      → (AreForm words form.Script → read ≡ Some form.Script) → read ≡ Some asked
  script_read form.Script script named test gives = gives script
  script_read (form.Load seed docs) load named test gives = absurd (other_name name (codes "load") (codes "script") named test refl)
  script_read (form.Serve port workers) serve named test gives = absurd (other_name name (codes "serve") (codes "script") named test refl)

  load_read : (asked : Form) (are : AreForm words asked) → Some name ≡ Some (name_of asked) → true ≡ bytes_eq name (codes "load") → Some rows ≡ Some (rows_for words asked are)
      → ((seed docs : ℕ) (load : IsLoad words seed docs) → first_of (codes "seed") rows ≡ Some load.seed_word → first_of (codes "docs") rows ≡ Some load.docs_word
      → read ≡ Some (form.Load seed docs)) → read ≡ Some asked
  load_read form.Script script named test held gives = absurd (other_name name (codes "script") (codes "load") named test refl)
  load_read (form.Load seed docs) load named test held gives =
      let are : rows ≡ two_rows (codes "seed") (codes "docs") load.seed_word load.docs_word = same_rows _ _ held in
      gives seed docs load (ap (first_of (codes "seed")) are) (ap (first_of (codes "docs")) are)
  load_read (form.Serve port workers) serve named test held gives = absurd (other_name name (codes "serve") (codes "load") named test refl)

  serve_read : (asked : Form) (are : AreForm words asked) → Some name ≡ Some (name_of asked) → true ≡ bytes_eq name (codes "serve") → Some rows ≡ Some (rows_for words asked are)
      → ((port workers : ℕ) (serve : IsServe words port workers) → first_of (codes "port") rows ≡ Some serve.port_word → first_of (codes "workers") rows ≡ Some serve.workers_word
      → read ≡ Some (form.Serve port workers)) → read ≡ Some asked
  serve_read form.Script script named test held gives = absurd (other_name name (codes "script") (codes "serve") named test refl)
  serve_read (form.Load seed docs) load named test held gives = absurd (other_name name (codes "load") (codes "serve") named test refl)
  serve_read (form.Serve port workers) serve named test held gives =
      let are : rows ≡ two_rows (codes "port") (codes "workers") serve.port_word serve.workers_word = same_rows _ _ held in
      gives port workers serve (ap (first_of (codes "port")) are) (ap (first_of (codes "workers")) are)

pub returns-in_err-name-clause-read : goal.returns-in_err-name-clause-read
returns-in_err-name-clause-read c asked are is =
    let met = is ∙ found c.args.words.now asked are in
    let named = name_found (out-ArgMatches c.args.found.now).subcommand (name_of asked) (rows_for c.args.words.now asked are) met in
    let none : None ≡ Some (name_of asked) = c.in_err-name.ensures.name ∙ named in absurd (cc)

pub returns-then-eq-clause-read : goal.returns-then-eq-clause-read
returns-then-eq-clause-read c asked are is =
    let met = is ∙ found c.args.words.now asked are in
    let named = c.in_ok-name.ensures.name ∙ name_found (out-ArgMatches c.args.found.now).subcommand (name_of asked) (rows_for c.args.words.now asked are) met in
    script_read c.args.words.now c.in_ok-name.name.now [] c.script_in.result asked are named c.if-eq.ensures c.script_in.ensures.read

pub returns-then-eq-2-clause-read : goal.returns-then-eq-2-clause-read
returns-then-eq-2-clause-read c asked are is =
    let met = is ∙ found c.args.words.now asked are in
    let named = c.in_ok-name.ensures.name ∙ name_found (out-ArgMatches c.args.found.now).subcommand (name_of asked) (rows_for c.args.words.now asked are) met in
    load_read c.args.words.now c.in_ok-name.name.now _ c.load_in.result asked are named c.if-eq-2.ensures
    (c.in_ok-name.ensures.rows ∙ ap (option_map (λ (p : Text × List Row). p.1)) met) c.load_in.ensures.read

pub returns-then-eq-3-clause-read : goal.returns-then-eq-3-clause-read
returns-then-eq-3-clause-read c asked are is =
    let met = is ∙ found c.args.words.now asked are in
    let named = c.in_ok-name.ensures.name ∙ name_found (out-ArgMatches c.args.found.now).subcommand (name_of asked) (rows_for c.args.words.now asked are) met in
    serve_read c.args.words.now c.in_ok-name.name.now _ c.serve_in.result asked are named c.if-eq-3.ensures
    (c.in_ok-name.ensures.rows ∙ ap (option_map (λ (p : Text × List Row). p.1)) met) c.serve_in.ensures.read
