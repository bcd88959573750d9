-- What a change of one field's dictionary makes of the dictionaries of all fields.
use Rattle.std.proofs.Common.{◌≡◌, ℕ, ◌+◌, Bool, false, List, Option, None, Some, IfSome, IfNone, sym, subst, arith}
use Rattle.std.specs.BTreeMap.{is_at}
use Rattle.std.specs.Map.{lookup, set_value}
use Rattle.std.specs.Ordering.{nat_cmp}
use Rattle.std.specs.Result.{IfOk}
use Rattle.std.specs.declared.result.Result.{Result}
use Rattle.std.specs.declared.result.Result.TheVariants.{Ok, Err}
use Rattle.inverted_list.specs.declared.marker.Marker.{Marker}
use Rattle.inverted_list.specs.declared.marker.Markers.{Markers}
use Rattle.inverted_list.specs.Listing.{Listing}
use Rattle.posting_block.specs.declared.hits.TagHit.{TagHit}
use Rattle.gc_splice.specs.declared.repair.Repair.{Repair}
use Rattle.gc_splice.specs.declared.splice.Spliced.{Spliced}
use Rattle.gc_splice.specs.declared.splice.Spliced.TheVariants.{Gone}
use Rattle.term_dict.specs.Splices.{CollectsTag, CollectsWord, SplicesTag, SplicesWord, removed_by}
use Rattle.term_dict.specs.Tags.{FieldTags, SetsTag, TagsRise, entries_in_fields, list_in, tags_of}
use Rattle.term_dict.specs.Terms.{Lists, Sets, entries_in_all, list_of}
use Rattle.term_dict.proofs.CountLaws.{fields_written}
use Rattle.term_dict.proofs.SpliceLaws.{collects_of, splices_of}
use Rattle.term_dict.proofs.TagLaws.{Puts, fields_rise, puts_rows, sets_tag, tags_found, written_same}

some_weaker : {T : Type 0} (o : Option T) (Q R : T → Type 0) → ((x : T) → Q x → R x) → IfSome o Q → IfSome o R
some_weaker (Some x) Q R f h = f x h
some_weaker None Q R f h = tt

none_weaker : {T : Type 0} (o : Option T) (Q R : Type 0) → (Q → R) → IfNone o Q → IfNone o R
none_weaker (Some x) Q R f h = tt
none_weaker None Q R f h = f h

pub if_ok_weaker : {T E : Type 0} (r : Result T E) (Q R : T → Type 0) → ((x : T) → Q x → R x) → IfOk r Q → IfOk r R
if_ok_weaker (Ok x) Q R f h = f x h
if_ok_weaker (Err e) Q R f h = tt

-- A field has this dictionary in place of the one before, and nothing else changed.
pub record Refills (field : ℕ) (tags after : Lists TagHit) (old new : FieldTags) : Type 0 where
  pub puts : Puts field after old new
  pub was : tags_of old field ≡ tags
  pub same : after ≡ tags → new ≡ old
  pub counted : entries_in_fields new + entries_in_all tags ≡ entries_in_fields old + entries_in_all after

-- a dictionary that was written over the one that the map lent
pub refills : (field : ℕ) (tags after : Lists TagHit) (old new : FieldTags) → Some tags ≡ lookup (is_at (nat_cmp field)) old
    → new ≡ set_value (is_at (nat_cmp field)) old after → lookup (is_at (nat_cmp field)) new ≡ Some after
    → ((other : ℕ) → is_at (nat_cmp field) other ≡ false → lookup (is_at (nat_cmp other)) new ≡ lookup (is_at (nat_cmp other)) old) → Refills field tags after old new
refills field tags after old new found written here others = record {
  puts = puts_rows field after old new here others;
  was = tags_found field old (Some tags) found;
  same = λ e. written_same field after tags old new written e found;
  counted = fields_written field old new tags after (sym found) written;
}

module _ (field : ℕ) (tag : List ℕ) (tags after : Lists TagHit) (old new : FieldTags) (h : Refills field tags after old new) where
  set : (x : Option (Listing TagHit)) → Sets tag x tags after → SetsTag field tag x old new
  set x s = sets_tag field tag (λ _. x) after tags old new h.puts h.was s

  pub refilled_rise : TagsRise after → ((f : ℕ) → TagsRise (tags_of old f)) → (f : ℕ) → TagsRise (tags_of new f)
  refilled_rise up rise = fields_rise field old new rise (subst TagsRise (sym h.puts.here) up) h.puts.others

  pub spliced_gone : (outcome : Spliced) → IfNone (list_of tags tag) ((outcome ≡ Gone) × (after ≡ tags)) → IfNone (list_in old field tag) ((outcome ≡ Gone) × (new ≡ old))
  spliced_gone outcome gone =
      subst (λ t. IfNone (list_of t tag) ((outcome ≡ Gone) × (new ≡ old))) (sym h.was)
      (none_weaker (list_of tags tag) ((outcome ≡ Gone) × (after ≡ tags)) ((outcome ≡ Gone) × (new ≡ old)) (λ g. (g.0, h.same g.1)) gone)

  pub spliced_there : (repair : Repair TagHit) (marker : Marker) (outcome : Spliced) → IfSome (list_of tags tag) (λ l. SplicesWord tag repair marker l tags after outcome)
      → IfSome (list_in old field tag) (λ l. SplicesTag field tag repair marker l old new outcome)
  spliced_there repair marker outcome there =
      subst (λ t. IfSome (list_of t tag) (λ l. SplicesTag field tag repair marker l old new outcome)) (sym h.was)
      (some_weaker (list_of tags tag) (λ l. SplicesWord tag repair marker l tags after outcome) (λ l. SplicesTag field tag repair marker l old new outcome)
      (λ l s. splices_of (λ x. Sets tag x tags after) (λ x. SetsTag field tag x old new) (after ≡ tags) (new ≡ old) set h.same repair marker l outcome s) there)

  pub spliced_count : (outcome : Spliced) → entries_in_all after + removed_by outcome ≡ entries_in_all tags → entries_in_fields new + removed_by outcome ≡ entries_in_fields old
  spliced_count outcome went = let e : entries_in_fields new + entries_in_all tags ≡ entries_in_fields old + entries_in_all after = h.counted in omega (arith, e, went)

  pub collected_gone : (before later : Markers) → IfNone (list_of tags tag) ((after ≡ tags) × (later ≡ before)) → IfNone (list_in old field tag) ((new ≡ old) × (later ≡ before))
  collected_gone before later gone =
      subst (λ t. IfNone (list_of t tag) ((new ≡ old) × (later ≡ before))) (sym h.was)
      (none_weaker (list_of tags tag) ((after ≡ tags) × (later ≡ before)) ((new ≡ old) × (later ≡ before)) (λ g. (h.same g.0, g.1)) gone)

  pub collected_ok : (live : ℕ → Bool) (before later : Markers) → IfSome (list_of tags tag) (λ l. CollectsWord live tag l tags after before later)
      → IfSome (list_in old field tag) (λ l. CollectsTag live field tag l old new before later)
  collected_ok live before later ok =
      subst (λ t. IfSome (list_of t tag) (λ l. CollectsTag live field tag l old new before later)) (sym h.was)
      (some_weaker (list_of tags tag) (λ l. CollectsWord live tag l tags after before later) (λ l. CollectsTag live field tag l old new before later)
      (λ l c. collects_of (λ x. Sets tag x tags after) (λ x. SetsTag field tag x old new) (after ≡ tags) (new ≡ old) set h.same live l before later c) ok)

  pub collected_count : (removed : ℕ) → entries_in_all after + removed ≡ entries_in_all tags → entries_in_fields new + removed ≡ entries_in_fields old
  collected_count removed went = let e : entries_in_fields new + entries_in_all tags ≡ entries_in_fields old + entries_in_all after = h.counted in omega (arith, e, went)

-- a field without a dictionary has no list
pub no_tags : (field : ℕ) (tag : List ℕ) (old : FieldTags) (Q : Listing TagHit → Type 0) → None ≡ lookup (is_at (nat_cmp field)) old → IfSome (list_in old field tag) Q
no_tags field tag old Q none = subst (λ (t : Lists TagHit). IfSome (list_of t tag) Q) (sym (tags_found field old None none)) tt
