-- A form as the flag that packets store.
use Rattle.std.specs.Prelude.{◌≡◌, Bool, true, false, refl}
use Rattle.std.specs.Coded.{Coded, code_by, coded_bool}
use Rattle.puffin_data.specs.declared.data.form.Form.{Form}
use Rattle.puffin_data.specs.declared.data.form.Form.TheVariants.{Short, Long}

-- the flag of a form
abbrev pub is_long : Form → Bool
is_long Short = false
is_long Long = true

-- the form of a flag
abbrev pub form_of_flag : Bool → Form
form_of_flag true = Long
form_of_flag false = Short

-- the flag of a form stands for that form
pub flag_of_form : (form : Form) → form_of_flag (is_long form) ≡ form
flag_of_form Short = refl
flag_of_form Long = refl

-- how values of the type `Form` are coded as flags
abbrev pub form_code : Coded Form
form_code = code_by Bool coded_bool is_long form_of_flag flag_of_form
