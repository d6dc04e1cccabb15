-- The causes of the lower readers as causes of a line.
use Rattle.json_fold.specs.declared.fault.FieldError.{FieldError}
use Rattle.json_fold.specs.declared.fault.FieldError.TheVariants as field
use Rattle.state_json.specs.declared.text.ParseError.{ParseError}
use Rattle.state_json.specs.declared.text.ParseError.TheVariants as text
use Rattle.capture_lines.specs.declared.error.LineError.{LineError}
use Rattle.capture_lines.specs.declared.error.LineError.TheVariants.{Float, Json, Field, Memory}

abbrev pub of_parse_error : ParseError → LineError
of_parse_error (text.Float at) = Float at
of_parse_error text.Json = Json
of_parse_error text.Memory = Memory

abbrev pub of_field_error : FieldError → LineError
of_field_error (field.Bad path cause) = Field path cause
of_field_error field.Memory = Memory
