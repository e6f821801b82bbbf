-- The form of the packets that store some streams.
use Rattle.std.proofs.Common.{◌≡◌, Bool, true, false, ◌||◌, List, [], ◌∷◌, refl, sym, ap, ◌∙◌}
use Rattle.std.specs.List.{AllByRecursion}
use Rattle.std.specs.FinMap.{is_sorted}
use Rattle.puffin_data.specs.declared.data.form.Form.{Form}
use Rattle.puffin_data.specs.declared.data.form.Form.TheVariants.{Short, Long}
use Rattle.puffin_data.specs.Text.Flags.{is_long, form_of_flag}
use Rattle.puffin_data.specs.Honesty.{StreamFacts}
use Rattle.puffin_threads.specs.Thread.ThreadKey.{ThreadKey, key_cmp}
use Rattle.puffin_frames.specs.Packet.Structs.{IsThreadKey, AreCounts, AreStreamFacts, some_long, form_of_all, are_ordered, AreStreams}
use Rattle.puffin_frames.proofs.Listed.{and-first, and-second, and-both}

-- a thread and the info of its scopes have a layout, apart from its form
abbrev pub Fits : ThreadKey × StreamFacts → Type 0
Fits entry = IsThreadKey entry.0 × AreCounts entry.1

-- they have a layout in packets of this form
abbrev pub FitsIn : Form → ThreadKey × StreamFacts → Type 0
FitsIn packed entry = IsThreadKey entry.0 × AreStreamFacts packed entry.1

-- streams in order are sorted, in each form
pub sorted_in : (packed : Form) (pairs : List (ThreadKey × StreamFacts)) →
    are_ordered packed pairs ≡ true →
    is_sorted key_cmp pairs ≡ true
sorted_in Short pairs e = e
sorted_in Long pairs e = and-first _ _ e

pub ordered_in : (packed : Form) (pairs : List (ThreadKey × StreamFacts)) →
    packed ≡ form_of_all pairs → is_sorted key_cmp pairs ≡ true →
    are_ordered packed pairs ≡ true
ordered_in Short pairs is e = e
ordered_in Long pairs is e = and-both _ _ e (long_is (some_long pairs) is)
  where
    long_is : (b : Bool) → Long ≡ form_of_flag b → b ≡ true
    long_is true same = refl
    long_is false same = absurd cc

none_long : (pairs : List (ThreadKey × StreamFacts)) →
    AllByRecursion (FitsIn Short) pairs →
    some_long pairs ≡ false
none_long [] all = refl
none_long (entry ∷ es) all = ap (λ (f : Form). is_long f || some_long es) all.0.1.0 ∙ none_long es all.1

-- what is stored in packets of a form has that form
pub form_stored : (packed : Form) (pairs : List (ThreadKey × StreamFacts)) →
    AreStreams packed pairs →
    packed ≡ form_of_all pairs
form_stored Short pairs fit = ap form_of_flag (sym (none_long pairs fit.0.1))
form_stored Long pairs fit = ap form_of_flag (sym (and-second _ _ fit.1))

-- and the other way round
pub stored_in : (packed : Form) (es : List (ThreadKey × StreamFacts)) →
    packed ≡ form_of_all es → AllByRecursion Fits es →
    AllByRecursion (FitsIn packed) es
stored_in Long [] is all = tt
stored_in Long (e ∷ es) is all =
    let ((thread, counts), later) = all in ((thread, (tt, counts)), each_long es later)
  where
    each_long : (pairs : List (ThreadKey × StreamFacts)) →
        AllByRecursion Fits pairs →
        AllByRecursion (FitsIn Long) pairs
    each_long [] all = tt
    each_long (e ∷ es) all = let ((thread, counts), later) = all in ((thread, (tt, counts)), each_long es later)
stored_in Short es is all = each_short es (short_is (some_long es) is) all
  where
    short_is : (b : Bool) → Short ≡ form_of_flag b → b ≡ false
    short_is false same = refl
    short_is true same = absurd cc

    form_short : (f : Form) → is_long f ≡ false → f ≡ Short
    form_short Short same = refl
    form_short Long same = absurd cc

    or-first : (a b : Bool) → (a || b) ≡ false → a ≡ false
    or-first true b same = absurd cc
    or-first false b same = refl

    or-second : (a b : Bool) → (a || b) ≡ false → b ≡ false
    or-second true b same = absurd cc
    or-second false b same = same

    each_short : (pairs : List (ThreadKey × StreamFacts)) →
        some_long pairs ≡ false → AllByRecursion Fits pairs →
        AllByRecursion (FitsIn Short) pairs
    each_short [] none all = tt
    each_short (e ∷ es) none all =
        let ((thread, counts), later) = all in
        ((thread, (form_short e.1.form (or-first _ _ none), counts)), each_short es (or-second _ _ none) later)
