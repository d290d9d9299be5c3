-- What the command `render` prints of its two files.
use Rattle.std.specs.Prelude.{ℕ, List, [], ◌∷◌, codes, Option, Some, None, Result, Ok, Err}
use Rattle.std.specs.List.{concat}
use Rattle.std.specs.Str.Lossy.{utf8_lossy}
use Rattle.vtl_grammar.specs.Templates.{read_of}
use Rattle.vtl_grammar.specs.Tree.{Items}
use Rattle.vtl_grammar.specs.Printed.{printed}
use Rattle.vtl_grammar.specs.declared.fault.TemplateFault.{TemplateFault}
use Rattle.vtl_eval.specs.Printed.{stop_name}
use Rattle.vtl_eval.specs.declared.stop.Rendered.{Rendered}
use Rattle.vtl_eval.specs.declared.stop.Stop.{Stop}
use Rattle.outside_core.specs.Files.{Files, content_of}
use Rattle.gateway_cli.specs.Files.{within}
use Rattle.play_script.specs.Play.{Output, too_long}
use Rattle.play_script.specs.Printed.{line_feed}
use Rattle.gateway_cli.specs.Requests.{render_request, render_facts}
use Rattle.call_facts.specs.Target.{target_of}
use Rattle.method_flow.specs.Answers.{text_over}

-- the line of a template that is refused
unfoldable pub refused : List ℕ → Output
refused fault = record { text = concat (codes "refused " ∷ fault ∷ codes " at ~" ∷ line_feed ∷ []); status = 1 }

-- the line of a render that stops
unfoldable pub stopped : Stop → Output
stopped stop = record { text = concat (codes "stop " ∷ stop_name stop ∷ line_feed ∷ []); status = 1 }

-- the text that was rendered and nothing else, or the limit that was met
abbrev pub shown : Result Rendered Stop → Output
shown (Ok rendered) = record { text = rendered.text; status = 0 }
shown (Err stop) = stopped stop

-- a template over the command's request with this body
unfoldable pub shown_over : List ℕ → Items → Output
shown_over body items = shown (text_over (render_request body) (target_of (render_request body).target) render_facts items)

-- the same of a template that is read
abbrev pub read_over : Result Items TemplateFault → List ℕ → Output
read_over (Ok items) body = shown_over body items
read_over (Err fault) body = refused (printed fault)

-- a template's bytes over a body's, unless either are over their limit
abbrev pub judged : Option (List ℕ) → Option (List ℕ) → Output
judged None body = too_long
judged (Some template) None = too_long
judged (Some template) (Some body) = read_over (read_of (utf8_lossy template)) body

-- the most bytes of the template's file, and of the body's
unfoldable pub template_limit : ℕ
template_limit = 307200

unfoldable pub body_limit : ℕ
body_limit = 10485760

-- the bytes of a template's file over those of a body's; in a template, bytes that are no UTF-8 stand for U+FFFD
abbrev pub rendered : List ℕ → List ℕ → Output
rendered template body = judged (within template_limit template) (within body_limit body)

-- both files must be there
abbrev pub rendered_files : Option (List ℕ) → Option (List ℕ) → Output
rendered_files None body = record { text = []; status = 3 }
rendered_files (Some template) None = record { text = []; status = 3 }
rendered_files (Some template) (Some body) = rendered template body

-- the files of these two names, of the template's and the body's
abbrev pub render_of : Files → List ℕ → List ℕ → Output
render_of files template body = rendered_files (content_of template files) (content_of body files)
