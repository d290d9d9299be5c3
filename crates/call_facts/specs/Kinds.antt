-- The gateway's own answers, by kind.
use Rattle.std.specs.Prelude.{ℕ, List, codes}
use Rattle.call_facts.specs.declared.kind.Kind.{Kind}
use Rattle.call_facts.specs.declared.kind.Kind.TheVariants.{AccessDenied, ApiConfigurationError, AuthorizerConfigurationError, AuthorizerFailure, BadRequestParameters, BadRequestBody, IntegrationFailure, IntegrationTimeout, InvalidApiKey, MissingAuthenticationToken, QuotaExceeded, RequestTooLarge, StoreFailure, Throttled, Unauthorized, UnknownStage, UnsupportedMediaType}

-- how a kind is printed (API Gateway Developer Guide, "Gateway response types")
abbrev pub kind_name : Kind → List ℕ
kind_name AccessDenied = codes "ACCESS_DENIED"
kind_name ApiConfigurationError = codes "API_CONFIGURATION_ERROR"
kind_name AuthorizerConfigurationError = codes "AUTHORIZER_CONFIGURATION_ERROR"
kind_name AuthorizerFailure = codes "AUTHORIZER_FAILURE"
kind_name BadRequestParameters = codes "BAD_REQUEST_PARAMETERS"
kind_name BadRequestBody = codes "BAD_REQUEST_BODY"
kind_name IntegrationFailure = codes "INTEGRATION_FAILURE"
kind_name IntegrationTimeout = codes "INTEGRATION_TIMEOUT"
kind_name InvalidApiKey = codes "INVALID_API_KEY"
kind_name MissingAuthenticationToken = codes "MISSING_AUTHENTICATION_TOKEN"
kind_name QuotaExceeded = codes "QUOTA_EXCEEDED"
kind_name RequestTooLarge = codes "REQUEST_TOO_LARGE"
kind_name StoreFailure = codes "STORE_FAILURE"
kind_name Throttled = codes "THROTTLED"
kind_name Unauthorized = codes "UNAUTHORIZED"
kind_name UnknownStage = codes "UNKNOWN_STAGE"
kind_name UnsupportedMediaType = codes "UNSUPPORTED_MEDIA_TYPE"

-- the status of its answer
abbrev pub kind_status : Kind → ℕ
kind_status AccessDenied = 403
kind_status ApiConfigurationError = 500
kind_status AuthorizerConfigurationError = 500
kind_status AuthorizerFailure = 500
kind_status BadRequestParameters = 400
kind_status BadRequestBody = 400
kind_status IntegrationFailure = 504
kind_status IntegrationTimeout = 504
kind_status InvalidApiKey = 403
kind_status MissingAuthenticationToken = 403
kind_status QuotaExceeded = 429
kind_status RequestTooLarge = 413
kind_status StoreFailure = 500
kind_status Throttled = 429
kind_status Unauthorized = 401
kind_status UnknownStage = 403
kind_status UnsupportedMediaType = 415

-- the message of its answer; that of missing parameters goes on with their names
abbrev pub kind_message : Kind → List ℕ
kind_message AccessDenied = codes "User is not authorized to access this resource"
kind_message ApiConfigurationError = codes "Internal server error"
kind_message AuthorizerConfigurationError = codes "Invalid authorizer reply"
kind_message AuthorizerFailure = codes "Authorizer failed"
kind_message BadRequestParameters = codes "Missing required request parameters"
kind_message BadRequestBody = codes "Invalid request body"
kind_message IntegrationFailure = codes "Network error communicating with endpoint"
kind_message IntegrationTimeout = codes "Endpoint request timed out"
kind_message InvalidApiKey = codes "Forbidden"
kind_message MissingAuthenticationToken = codes "Missing Authentication Token"
kind_message QuotaExceeded = codes "Limit Exceeded"
kind_message RequestTooLarge = codes "Request Entity Too Large"
kind_message StoreFailure = codes "Store unavailable"
kind_message Throttled = codes "Too Many Requests"
kind_message Unauthorized = codes "Unauthorized"
kind_message UnknownStage = codes "Unknown stage"
kind_message UnsupportedMediaType = codes "Unsupported Media Type"
