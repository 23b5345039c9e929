-- Classes of bytes, such as may follow one another in a piece of a text.
use Rattle.std.specs.Prelude.{ℕ, Bool, not, ◌||◌, ◌==◌}
use Rattle.std.specs.Char.{is_ascii_alphabetic, is_ascii_digit}
use Rattle.sy_fleet_text.specs.declared.classes.Class.{Class}
use Rattle.sy_fleet_text.specs.declared.classes.Class.TheVariants as class

-- space, tab, line feed, form feed, carriage return
abbrev pub is_blank : ℕ → Bool
is_blank b = b == 32 || b == 9 || b == 10 || b == 12 || b == 13

-- letters, digits, `_`
abbrev pub is_word : ℕ → Bool
is_word b = is_ascii_alphabetic b || is_ascii_digit b || b == 95

-- those, and `.` `-` `$`
abbrev pub is_name : ℕ → Bool
is_name b = is_word b || b == 46 || b == 45 || b == 36

-- those, and `/` `:` `+` `*` `@` `%`
abbrev pub is_value : ℕ → Bool
is_value b = is_name b || b == 47 || b == 58 || b == 43 || b == 42 || b == 64 || b == 37

-- those of a name, and `!` `[` `]` `@`
abbrev pub is_variable : ℕ → Bool
is_variable b = is_name b || b == 33 || b == 91 || b == 93 || b == 64

-- letters, digits, `_` `*` `,`
abbrev pub is_facility : ℕ → Bool
is_facility b = is_word b || b == 42 || b == 44

-- those, and `.` `=` `!` `;`
abbrev pub is_selector : ℕ → Bool
is_selector b = is_facility b || b == 46 || b == 61 || b == 33 || b == 59

-- letters, digits, `_` `*` `,` `-` `+` `;`
abbrev pub is_users : ℕ → Bool
is_users b = is_facility b || b == 45 || b == 43 || b == 59

abbrev pub is_in : Class → ℕ → Bool
is_in class.Blank b = is_blank b
is_in class.Line b = not (b == 10)
is_in class.Word b = is_word b
is_in class.Name b = is_name b
is_in class.Value b = is_value b
is_in class.Variable b = is_variable b
is_in class.Facility b = is_facility b
is_in class.Selector b = is_selector b
is_in class.Users b = is_users b
