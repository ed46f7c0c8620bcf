-- The text of a page, in octets, over its parts.
--     Parts        what is handed in
--     page_text    the whole, with a script and a style
--     whole_text   the whole, with those of this crate
use Rattle.std.specs.Prelude.{ℕ, List, [], ◌++◌, Option, Some, None, chars, encode_utf8_all, codes}
use Rattle.base64.specs.Engines.{standard}
use Rattle.base64.specs.GeneralPurpose.{encode_of}
use Rattle.sha2.specs.Sha256.{sha256}
use Rattle.hsr_page.specs.declared.frame.Kind.{Kind}
use Rattle.hsr_page.specs.declared.frame.Kind.TheVariants.{Run, Plan}
use Rattle.hsr_page.specs.declared.plan_script.TheConstants.{PLAN_SCRIPT}
use Rattle.hsr_page.specs.declared.script.TheConstants.{SCRIPT}
use Rattle.hsr_page.specs.declared.style.TheConstants.{STYLE}
use Rattle.hsr_page.specs.Hidden.{seen}
use Rattle.hsr_page.specs.Spelling.{escaped, style_string}

-- a title and what stands at the foot of each sheet of paper are texts; body and json were formed
pub record Parts : Type 0 where
  pub kind : Kind
  pub title : List ℕ
  pub foot : Option (List ℕ)
  pub body : List ℕ
  pub json : List ℕ

-- ---- the policy: nothing but this script and this style (Content Security Policy Level 3)

-- octets by their sum, behind the name of what they are allowed as
unfoldable pub source_text : List ℕ → List ℕ → List ℕ
source_text name octets = name ++ codes " 'sha256-" ++ encode_of standard (sha256 octets) ++ codes "'; "

unfoldable pub policy_text : List ℕ → List ℕ → List ℕ
policy_text script style =
    codes "default-src 'none'; " ++ source_text (codes "script-src") script ++ source_text (codes "style-src") style ++ codes "base-uri 'none'; form-action 'none'"

-- ---- the style

abbrev pub foot_text : Option (List ℕ) → List ℕ
foot_text None = []
foot_text (Some foot) = codes "@page{@bottom-left{content:" ++ encode_utf8_all (style_string (seen (chars foot))) ++ codes ";font:8pt sans-serif}}\n"

unfoldable pub style_text : List ℕ → Option (List ℕ) → List ℕ
style_text sheet foot = sheet ++ foot_text foot

-- ---- the page

unfoldable pub opening_text : List ℕ
opening_text = codes "<!DOCTYPE html>\n<html lang=\"en\">\n<head>\n<meta charset=\"utf-8\">\n<meta http-equiv=\"Content-Security-Policy\" content=\""

unfoldable pub metas_text : List ℕ
metas_text =
    codes "\">\n<meta name=\"viewport\" content=\"width=device-width, initial-scale=1\">\n<meta name=\"color-scheme\" content=\"light dark\">\n"
    ++ codes "<meta name=\"referrer\" content=\"no-referrer\">\n<title>"

-- from the end of the title to that of the head
unfoldable pub style_element : List ℕ → List ℕ
style_element style = codes "</title>\n<style>" ++ style ++ codes "</style>\n</head>\n"

unfoldable pub head_text : List ℕ → List ℕ → List ℕ → List ℕ
head_text script style title =
    opening_text ++ policy_text script style ++ metas_text ++ encode_utf8_all (escaped (seen (chars title))) ++ style_element style

abbrev pub kind_word : Kind → List ℕ
kind_word Run = codes "run"
kind_word Plan = codes "plan"

unfoldable pub data_begin : List ℕ
data_begin = codes "\n<script type=\"application/json\" id=\"data\">"

unfoldable pub content_text : Kind → List ℕ → List ℕ → List ℕ
content_text kind body json = codes "<body class=\"" ++ kind_word kind ++ codes "\">\n" ++ body ++ data_begin ++ json ++ codes "</script>\n"

unfoldable pub end_text : List ℕ → List ℕ
end_text script = codes "<script>" ++ script ++ codes "</script>\n</body>\n</html>\n"

-- with this script, and this style where no foot is asked for
unfoldable pub page_text : List ℕ → List ℕ → Parts → List ℕ
page_text script sheet parts = head_text script (style_text sheet parts.foot) parts.title ++ content_text parts.kind parts.body parts.json ++ end_text script

-- the script of what a page is of
abbrev pub script_of : Kind → List ℕ
script_of Run = SCRIPT.now
script_of Plan = PLAN_SCRIPT.now

unfoldable pub whole_text : Parts → List ℕ
whole_text parts = page_text (script_of parts.kind) STYLE.now parts
